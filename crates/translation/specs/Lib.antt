-- What a call leaves
pub mod TranslateCall
