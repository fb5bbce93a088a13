pub mod Plans
mod Marking
mod Tellings
mod Devices
pub mod PathMaps
pub mod Askings
pub mod Alone
pub mod Behind
pub mod Disks
pub mod Checks
pub mod Checking
mod ReadOnly
mod Modes
mod Gathering
