pub mod Layout
pub mod Job
pub mod Places
pub mod Protein
