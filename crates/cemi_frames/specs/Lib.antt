pub mod Refusing
pub use Rattle.knx_model.specs.Cemi
