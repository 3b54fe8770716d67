pub mod Datagrams
pub mod Disk
