pub mod State
pub mod StateLaws
