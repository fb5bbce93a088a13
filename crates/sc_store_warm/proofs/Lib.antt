pub mod Chains
pub mod Endings
pub mod FileMaps
pub mod Moves
pub mod Reasons
pub mod SameKinds
pub mod Sources
pub mod Targets
