mod Ranges
pub mod Books
mod Between
mod Deeds
pub mod HeldJobs
mod Changed
mod Stages
mod Begun
mod JobEvents
mod Events
mod Moments
pub mod Crews
mod Rooms
pub mod Works
mod KeptBooks
mod Confirmed
mod Heard
mod Lost
mod Stepped
pub mod Undecided
mod Put
mod Devices
mod Logs
mod OneTurn
mod Unfinished
mod NextTelegram
mod Beginning
mod Lines
mod Places
mod Waits
pub mod GroupWaits
pub mod Growing
pub mod Lasting
pub mod PollsRight
pub mod Came
pub mod CameFor
pub mod Counted
