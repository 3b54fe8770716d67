pub mod AddressWorld
pub mod AddressLegal
pub mod AddressStory
pub mod Keeps
pub mod Shown
