pub mod ReadToc
pub mod FitFacts
pub mod Perform
pub mod PerformLaws
pub mod Packet
pub mod PacketLaws
