pub mod Puts
pub mod Any
pub mod Searches
pub mod Bools
pub mod Sames
