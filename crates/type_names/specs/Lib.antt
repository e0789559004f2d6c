pub mod Positions
pub mod Fitting
pub mod Rows
pub mod Operands
pub mod Names
pub mod Signatures
