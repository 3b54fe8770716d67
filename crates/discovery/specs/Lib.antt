pub mod Services
pub mod Discovery
pub mod Sorts
pub mod Walks
pub mod Finding
pub mod Same
