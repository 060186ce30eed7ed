pub mod Sense
pub mod SenseLaws
pub mod Unit
