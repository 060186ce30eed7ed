pub mod Decimal
pub mod Digits
pub mod Front
pub mod Hex
pub mod Joined
pub mod Numbers
pub mod Sum
pub mod Unique
