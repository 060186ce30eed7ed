pub mod Line
pub mod Run
pub mod RunLaws
