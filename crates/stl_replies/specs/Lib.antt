pub mod Mesh
