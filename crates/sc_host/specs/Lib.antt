pub mod Programs
pub mod Refusing
