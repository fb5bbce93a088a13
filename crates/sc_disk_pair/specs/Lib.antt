pub mod Codes
pub mod LazyLends
pub mod Pairs
pub mod Parts
pub mod Twos
