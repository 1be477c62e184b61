-- What translating asks for and leaves
pub mod Translating
