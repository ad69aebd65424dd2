pub mod Order
pub mod Index
