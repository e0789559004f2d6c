pub mod Chains
mod Examples
pub mod Firsts
