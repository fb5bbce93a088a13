pub mod Fields
pub mod Outputs
pub mod Records
pub mod Requests
pub mod Tokens
pub mod Numbers
pub mod Replies
pub mod Counters
