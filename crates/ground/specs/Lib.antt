pub mod Tests
pub mod Number
pub mod Memory
pub mod Ranges
pub mod TestValues
