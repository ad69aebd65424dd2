pub mod Atoms
pub mod Tables
pub mod Walk
