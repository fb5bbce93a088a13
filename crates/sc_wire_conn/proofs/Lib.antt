pub mod Fronts
pub mod Inboxes
