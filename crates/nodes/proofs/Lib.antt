pub mod Bits
pub mod Forms
