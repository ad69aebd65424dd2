pub mod Laws
pub mod Found
pub mod Numbers
pub mod Holding
pub mod Theorems
