pub mod Entries
pub mod Lawful
pub mod Lengths
pub mod Spelled
pub mod Told
