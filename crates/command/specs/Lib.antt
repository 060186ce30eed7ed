pub mod Command
pub mod Class
pub mod ClassLaws
pub mod Done
pub mod Tray
pub mod Inquiry
