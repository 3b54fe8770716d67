pub mod Breaking
pub mod Broken
pub mod Counting
pub mod Devices
pub mod Keys
pub mod Knowing
pub mod Links
pub mod Parts
