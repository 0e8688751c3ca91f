pub mod Areas
pub mod Decimals
pub mod Texts
