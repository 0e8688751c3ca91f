pub mod Bookings
pub mod Lines
pub mod Orders
pub mod Picks
