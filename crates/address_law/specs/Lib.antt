pub mod Calm
pub mod Determined
