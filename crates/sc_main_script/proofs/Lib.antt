pub mod Steps
pub mod Appending
pub mod Changing
pub mod GoodObjects
pub mod GoodLines
pub mod GoodScripts
