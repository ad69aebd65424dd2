pub mod Jobs
pub mod Opened
pub mod Tests
pub mod Table
