pub mod Rounds
pub mod Talk
pub mod Pace
pub mod Ends
