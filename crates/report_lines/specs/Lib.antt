-- What the contracts cite: the printed counts of boxes, and the lines of reports.
pub mod Counts
pub mod Report
