pub mod Agree
pub mod Parts
pub mod Joined
pub mod Cases
