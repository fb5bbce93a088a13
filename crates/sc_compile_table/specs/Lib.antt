pub mod Books
pub mod Tables
