pub mod Moments
pub mod Openings
pub mod Reopening
pub mod Resuming
pub mod Stops
