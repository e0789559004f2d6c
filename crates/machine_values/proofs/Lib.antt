mod Depths
pub mod Floors
