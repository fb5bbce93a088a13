pub mod Renewing
pub mod Unmade
