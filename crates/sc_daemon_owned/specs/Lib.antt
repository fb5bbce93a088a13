pub mod Codes
pub mod Distributing
pub mod Facts
pub mod Laws
pub mod Moving
pub mod Quiet
pub mod State
