pub mod Back
pub mod Tubes
pub mod Built
pub mod Written
pub mod Again
pub mod Demands
pub mod FacetCases
pub mod BufferCases
