pub mod Holding
pub mod Misses
pub mod PreprocessorPuts
pub mod Putting
pub mod Requests
pub mod Sizes
pub mod Statistics
