pub mod EventClass
pub mod EventClassLaws
pub mod EventAnswer
pub mod EventAnswerLaws
