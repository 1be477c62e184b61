-- What a call leaves
pub mod AnswerCall
