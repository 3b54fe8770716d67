pub mod Relays
pub mod Items
pub mod Watchers
pub mod Sites
pub mod Steps
pub mod Works
pub mod Leaving
pub mod Runs
