pub mod Session
pub mod SessionLaws
