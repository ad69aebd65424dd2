pub mod Reading
pub mod Faults
pub mod Steps
