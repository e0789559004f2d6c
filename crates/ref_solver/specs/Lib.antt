pub mod Following
pub mod Classes
pub mod Clashing
pub mod Opposites
