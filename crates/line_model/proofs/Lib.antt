mod Tests
mod Datagrams
mod Frames
mod Passes
mod Writings
mod Sessions
mod Loads
mod Buses
mod Concerned
pub mod Reached
mod Disturbed
mod Scripts
mod Waits
mod Begins
mod Networks
mod Channels
pub mod Projection
pub mod Turns
mod Lapses
pub mod Deadlines
pub mod UnderWay
pub mod Entries
pub mod Moments
pub mod Strays
pub mod Taken
pub mod NoneFailed
