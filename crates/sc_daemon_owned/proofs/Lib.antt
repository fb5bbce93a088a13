pub mod Alone
pub mod Distributing
pub mod Finding
pub mod Making
pub mod Opened
pub mod Passing
pub mod Staying
pub mod Steps
