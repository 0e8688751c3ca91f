pub mod Tables
pub mod Works
pub mod Ticking
pub mod Listed
pub mod Working
