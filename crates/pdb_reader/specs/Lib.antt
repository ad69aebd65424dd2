pub mod Call
pub mod Causes
pub mod Says
