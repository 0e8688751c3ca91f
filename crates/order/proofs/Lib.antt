pub mod Calls
pub mod Dues
pub mod Lining
pub mod Picking
pub mod Placement
pub mod Shift
