pub mod Parts
pub mod Choices
pub mod Lines
pub mod Inputs
pub mod Frames
pub mod Levels
pub mod Scripts
pub mod Goods
