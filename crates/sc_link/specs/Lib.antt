pub mod Accepting
pub mod Connecting
pub mod Listening
pub mod Making
pub mod Numbers
pub mod Refusals
