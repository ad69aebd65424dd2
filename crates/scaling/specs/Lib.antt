pub mod Scale
pub mod Written
