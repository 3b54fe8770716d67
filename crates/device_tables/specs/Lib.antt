pub mod Index
pub mod Lowest
pub mod Objects
