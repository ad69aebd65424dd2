pub mod Files
pub mod Rooms
pub mod Demands
