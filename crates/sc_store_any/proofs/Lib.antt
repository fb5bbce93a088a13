pub mod Chained
pub mod Chains
pub mod Places
pub mod Preprocessing
pub mod Sums
pub mod Turns
