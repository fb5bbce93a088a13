pub mod Beginning
pub mod Distributing
pub mod Holding
