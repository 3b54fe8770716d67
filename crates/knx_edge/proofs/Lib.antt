pub mod Counts
pub mod Next
pub mod Senders
pub mod Writes
