pub mod Theorems
pub mod Linked
pub mod Tubes
pub mod Sums
pub mod Ends
pub mod Same
pub mod Order
