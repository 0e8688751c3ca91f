pub mod Refusals
pub mod Words
pub mod Makes
pub mod Parts
pub mod Shared
pub mod Views
pub mod Examples
pub mod Lawful
