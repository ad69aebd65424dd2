pub mod Buffers
pub mod Patterns
pub mod Requests
