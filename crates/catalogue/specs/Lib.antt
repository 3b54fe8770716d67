pub mod Shapes
pub mod Catalogue
pub mod Taken
pub mod FirstRefusal
