pub mod Keys
pub mod Drawn
