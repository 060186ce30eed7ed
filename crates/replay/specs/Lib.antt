pub mod Line
pub mod Task
