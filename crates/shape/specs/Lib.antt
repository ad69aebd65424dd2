pub mod Spline
pub mod Guide
pub mod Ring
