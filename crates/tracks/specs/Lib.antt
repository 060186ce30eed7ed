pub mod Track
pub mod TrackLaws
pub mod RunLaws
pub mod SpreadLaws
