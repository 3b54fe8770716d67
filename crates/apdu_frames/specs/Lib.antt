pub mod Refusing
pub use Rattle.knx_model.specs.Apdu
pub use Rattle.knx_model.specs.ApduReading
