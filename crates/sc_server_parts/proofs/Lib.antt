pub mod Unreserved
