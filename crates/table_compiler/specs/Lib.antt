pub mod Drafts
pub mod Images
pub mod Order
pub mod Settings
