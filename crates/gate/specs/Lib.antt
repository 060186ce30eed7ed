pub mod Fault
pub mod Unit
pub mod Gate
pub mod GateLaws
