pub mod TaskFile
pub mod Run
pub mod RunLaws
pub mod Host
pub mod HostLaws
