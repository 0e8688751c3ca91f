pub mod Plenty
pub mod Laying
pub mod Serving
pub mod Worked
