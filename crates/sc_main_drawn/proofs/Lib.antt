pub mod Drawing
pub mod Goodness
