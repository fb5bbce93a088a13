pub mod Answered
pub mod DiskPuts
pub mod Keeping
pub mod Preprocessing
pub mod Spelled
