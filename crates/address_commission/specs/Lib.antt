pub mod Exact
pub mod Counted
pub mod Going
pub mod Listening
pub mod Calls
pub mod Always
