-- What the contracts rest on: the ends of an interval, what it contains, how large it is, and division with a rest.
pub mod Division
pub mod Interval
