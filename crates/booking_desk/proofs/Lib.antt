pub mod Arranging
pub mod Two
