pub mod Calls
pub mod Parties
