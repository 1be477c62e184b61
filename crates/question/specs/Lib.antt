-- In reading order. Refusals 5 and 6, and all six in their order, are in `judgements`.
pub mod Trees
pub mod Judgement
-- What the code keeps instead
pub mod Walk
