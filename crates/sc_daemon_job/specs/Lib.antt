pub mod Askers
pub mod Judgements
pub mod Languages
pub mod LevelRows
pub mod Setups
