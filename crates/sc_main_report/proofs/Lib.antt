pub mod Replies
pub mod Growing
