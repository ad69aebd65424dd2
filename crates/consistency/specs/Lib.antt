pub mod Consistent
pub mod Means
