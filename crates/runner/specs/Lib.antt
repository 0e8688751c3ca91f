pub mod Refusals
pub mod Jobs
pub mod Views
pub mod Listing
pub mod Examples
