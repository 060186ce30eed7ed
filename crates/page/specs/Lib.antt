pub mod Page
pub mod PageLaws
