pub mod Least
pub mod Written
pub mod Once
