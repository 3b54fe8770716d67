mod Walks
pub mod Places
pub mod Lost
pub mod Seen
pub mod Held
pub mod Quiet
pub mod Polling
pub mod Links
pub mod Sound
pub mod Waiting
pub mod Carried
pub mod Stays
pub mod Calm
