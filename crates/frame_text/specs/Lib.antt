pub mod Spaced
pub mod FrameText
pub mod GatewayText
