pub mod World
pub mod Client
pub mod Device
pub mod Events
pub mod Promises
pub mod Runs
