-- What contracts rest on: the kernel, exact and rounded, and how its table lies in memory.
pub mod Kernel
pub mod Table
