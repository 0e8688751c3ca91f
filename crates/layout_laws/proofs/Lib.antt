pub mod Offset
pub mod Periodic
pub mod Sums
pub mod Supply
pub mod FlatLaws
pub mod SemiLaws
pub mod DedicatedLaws
