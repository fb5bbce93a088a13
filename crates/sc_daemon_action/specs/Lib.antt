pub mod Acts
pub mod Controls
pub mod Hands
pub mod Misses
pub mod Ran
pub mod Sends
pub mod Serves
pub mod Sizes
