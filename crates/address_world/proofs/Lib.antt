pub mod Frames
pub mod Gateways
pub mod Requests
pub mod Units
pub mod Always
