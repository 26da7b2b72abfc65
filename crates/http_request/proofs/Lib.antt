pub mod Forms
pub mod WholeAnswers
