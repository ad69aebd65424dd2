pub mod Floats
pub mod Nearest
