pub mod Checks
pub mod Lookups
pub mod Moving
pub mod Preprocessor
pub mod Puts
pub mod Sizes
pub mod Storages
pub mod Stores
