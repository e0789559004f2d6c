pub mod Calls
pub mod Expressions
