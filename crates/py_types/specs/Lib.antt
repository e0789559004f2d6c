pub mod Order
pub mod TreeFaults
pub mod Typing
