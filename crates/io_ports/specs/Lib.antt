-- The words of the ports: bytes that come and go, and the counts of faults.
pub mod Bytes
pub mod Faults
pub mod Memory
