pub mod Says
pub mod Entered
