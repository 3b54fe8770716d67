pub mod Reservation
pub mod Bits
pub mod Words
pub mod Chains
pub mod Kept
pub mod Reserved
