pub mod Asking
pub mod Compiling
pub mod Connecting
pub mod Ending
pub mod Printed
