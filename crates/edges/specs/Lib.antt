pub mod Sound
pub mod Tube
