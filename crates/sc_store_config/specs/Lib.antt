pub mod Configs
pub mod Policies
