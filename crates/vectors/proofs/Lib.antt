pub mod Directions
pub mod Flat
