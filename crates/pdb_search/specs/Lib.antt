pub mod Kinds
pub mod Post
