pub mod Keeping
pub mod Making
pub mod Named
pub mod Outputs
