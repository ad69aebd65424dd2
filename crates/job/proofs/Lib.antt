pub mod Laws
pub mod Coordinate
pub mod Accepted
pub mod Told
