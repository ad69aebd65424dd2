pub mod Calls
pub mod Meshes
pub mod Boxes
