pub mod Laws
pub mod One
pub mod Written
pub mod Demands
