pub mod Clients
pub mod Containers
pub mod Doing
pub mod GoodJobs
pub mod Jobs
pub mod Makings
pub mod Waiting
