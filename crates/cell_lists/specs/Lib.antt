-- Definitions that the contracts cite.
pub mod Cases
pub mod Entries
pub mod EntryLists
pub mod FlatLists
pub mod ListAt
pub mod Lists
pub mod Meetings
pub mod Numbers
pub mod Pairs
pub mod Picked
pub mod Walk
pub mod Walks
