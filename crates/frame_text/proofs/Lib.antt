pub mod Lines
pub mod HexWord
pub mod Texts
pub mod GatewayLines
