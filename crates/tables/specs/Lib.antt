pub mod Wants
pub mod Table
