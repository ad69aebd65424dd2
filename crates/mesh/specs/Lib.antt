pub mod Mesh
pub mod Outs
