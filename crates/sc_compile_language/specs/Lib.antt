pub mod Extensions
pub mod Languages
