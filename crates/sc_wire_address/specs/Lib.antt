pub mod Addresses
pub mod Escapes
