-- In reading order.
pub mod PlansLegal
pub mod CallLaws
pub mod AnswerSize
