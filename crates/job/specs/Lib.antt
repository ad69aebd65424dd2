pub mod Refusals
pub mod Coordinate
pub mod Check
