pub mod InOrder
pub mod NoFloat
pub mod Values
