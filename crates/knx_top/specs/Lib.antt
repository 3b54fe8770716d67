pub mod Shown
pub mod Undisturbed
pub mod Ran
pub mod Begun
pub mod Dialled
pub mod commands
pub mod Watched
pub mod Complete
