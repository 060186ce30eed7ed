pub mod Shown
pub mod ShownLaws
pub mod Answer
pub mod AnswerLaws
