pub mod Migrated
pub mod Printing
pub mod Reading
pub mod Sending
pub mod Spelling
pub mod Wants
