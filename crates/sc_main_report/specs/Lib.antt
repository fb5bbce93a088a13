pub mod Report
pub mod Sections
pub mod Ending
pub mod Words
