pub mod Laws
pub mod Readback
pub mod Fine
