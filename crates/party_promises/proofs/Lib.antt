pub mod Ladder
pub mod Sharing
pub mod AsJob
pub mod Kept
pub mod Answers
pub mod Demands
