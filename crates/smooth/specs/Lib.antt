pub mod Pass
pub mod Turns
