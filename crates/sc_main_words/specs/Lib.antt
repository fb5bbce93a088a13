pub mod Addresses
pub mod Commands
pub mod Names
pub mod Parses
pub mod Texts
