pub mod Fields
pub mod Json
