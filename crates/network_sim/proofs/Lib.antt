pub mod Deliveries
pub mod Windows
pub mod Ages
pub mod Over
pub mod Longest
