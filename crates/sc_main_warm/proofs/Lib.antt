pub mod Steps
pub mod GoodDrafts
