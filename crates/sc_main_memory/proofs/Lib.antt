pub mod Firsts
pub mod Calling
pub mod Sizing
