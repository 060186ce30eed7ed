pub mod Registers
pub mod RegistersLaws
