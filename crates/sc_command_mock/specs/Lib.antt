pub mod Mocks
