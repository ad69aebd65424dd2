pub mod Laws
pub mod Reached
pub mod Means
