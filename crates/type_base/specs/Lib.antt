pub mod Faults
pub mod Types
pub mod Members
pub mod Locals
