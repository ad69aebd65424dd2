pub mod Answers
pub mod Reading
pub mod Skips
pub mod Demands
