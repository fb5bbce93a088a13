pub mod Causes
pub mod Counting
pub mod Lines
pub mod Sameness
pub mod Storing
