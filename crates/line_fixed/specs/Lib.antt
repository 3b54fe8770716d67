pub mod Entries
pub mod PortItems
pub mod Fixed
pub mod Dialling
pub mod OneLine
