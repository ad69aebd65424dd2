pub mod Put
pub mod Search
pub mod Same
