pub mod Kinds
pub mod Numbers
pub mod Sections
pub mod Words
