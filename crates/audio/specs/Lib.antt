pub mod Audio
pub mod AudioLaws
pub mod SubChannel
pub mod SubChannelLaws
