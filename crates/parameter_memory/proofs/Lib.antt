pub mod Digits
pub mod Written
pub mod Holds
pub mod One
