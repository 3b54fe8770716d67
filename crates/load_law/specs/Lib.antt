pub mod Download
pub mod Undisturbed
