pub mod Numbers
pub mod Stakes
