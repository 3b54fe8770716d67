pub mod Fates
pub mod Readable
pub mod Window
pub mod Arriving
