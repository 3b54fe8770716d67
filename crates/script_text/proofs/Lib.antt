pub mod Values
pub mod Reading
pub mod Spelling
pub mod Strangers
pub mod Lengths
pub mod Misfits
