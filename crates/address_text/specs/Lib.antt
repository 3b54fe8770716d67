pub mod UnitAddress
pub mod UnitText
pub mod UnitSpelling
