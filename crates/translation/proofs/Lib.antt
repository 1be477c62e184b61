-- The call
pub mod CallLaws
