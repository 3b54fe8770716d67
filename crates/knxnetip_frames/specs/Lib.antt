pub mod Services
pub use Rattle.knx_model.specs.KnxNetIp
