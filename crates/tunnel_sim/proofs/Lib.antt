pub mod Taking
pub mod Tunnels
pub mod Going
pub mod Counting
pub mod Deadlines
pub mod Times
