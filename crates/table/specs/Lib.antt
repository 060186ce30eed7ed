pub mod Layout
pub mod Row
pub mod RowLaws
pub mod Asked
pub mod AskedLaws
