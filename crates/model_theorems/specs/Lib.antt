pub mod Model
pub mod Large
