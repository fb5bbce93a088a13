pub mod Cacheables
pub mod Plainly
pub mod Steps
