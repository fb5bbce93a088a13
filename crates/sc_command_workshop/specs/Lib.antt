pub mod Collecting
pub mod Executing
pub mod Placing
pub mod Preparing
pub mod Shops
