pub mod Parts
pub mod Places
pub mod Group
pub mod Due
pub mod Line
pub mod Allowed
