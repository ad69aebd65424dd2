pub mod Demands
pub mod Ends
pub mod Jobs
pub mod Within
