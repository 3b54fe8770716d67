pub mod Ends
pub mod Relayed
