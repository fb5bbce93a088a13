pub mod Answers
pub mod Following
pub mod Running
