pub mod Brought
pub mod Delivery
pub mod Effects
pub mod Indexed
pub mod Lending
pub mod Sending
pub mod States
pub mod Wear
