pub mod Playing
pub mod Within
pub mod Calling
pub mod Chaining
pub mod Resuming
pub mod Stopping
pub mod Starting
pub mod Shares
