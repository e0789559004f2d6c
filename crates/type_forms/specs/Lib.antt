pub mod Signatures
pub mod Jumps
pub mod Supers
pub mod Statements
pub mod Forms
