pub mod Areas
pub mod Pens
