pub mod Judgements
pub mod PairLaws
pub mod StoredLaws
pub mod TableLaws
