pub mod Around
pub mod Makings
pub mod Memory
