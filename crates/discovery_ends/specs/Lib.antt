pub mod Naming
pub mod Answering
pub mod Searching
pub mod Going
pub mod Looking
