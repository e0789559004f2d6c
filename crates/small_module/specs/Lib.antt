pub mod SmallTree
pub mod SmallModule
pub mod SmallBody
pub mod Spelled
