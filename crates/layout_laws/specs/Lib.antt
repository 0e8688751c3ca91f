pub mod Meaning
pub mod Offset
pub mod Periodic
pub mod Shares
pub mod Flat
pub mod Semi
pub mod Dedicated
