pub mod Leads
pub mod Passes
