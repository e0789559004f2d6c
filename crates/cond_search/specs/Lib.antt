pub mod Verdicts
pub mod Questions
pub mod Steps
