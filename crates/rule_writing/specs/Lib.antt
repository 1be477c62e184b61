-- What the short rules write behind a range
pub mod Rules
