pub mod Children
pub mod Creating
pub mod Refusals
pub mod Settings
pub mod Spawning
pub mod Statuses
pub mod Tokens
pub mod Variables
