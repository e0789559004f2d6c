pub mod Stepping
pub mod Built
pub mod SmallForms
pub mod Changes
pub mod Lines
pub mod Owned
