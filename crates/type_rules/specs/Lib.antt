pub mod Scopes
pub mod Statements
pub mod Types
