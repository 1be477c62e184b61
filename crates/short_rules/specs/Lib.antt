-- When the short rules fit, and what they list
pub mod Fits
pub mod Lists
