pub mod Gateways
pub mod Tunnels
