pub mod Compiled
pub mod Filtering
pub mod Found
pub mod Fronts
pub mod Noting
pub mod Replying
pub mod Retried
pub mod Running
