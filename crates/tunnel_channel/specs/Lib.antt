pub mod Request
pub mod Ends
pub mod Fits
pub mod Follows
