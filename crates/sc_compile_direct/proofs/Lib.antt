pub mod Going
pub mod Tying
