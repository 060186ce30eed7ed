pub mod ModeSense
pub mod ModeSenseLaws
pub mod ModeSelect
pub mod ModeSelectLaws
