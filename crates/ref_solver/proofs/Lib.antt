pub mod Standing
pub mod Meant
pub mod Collecting
pub mod Linking
pub mod Exact
pub mod Merged
pub mod Opposing
pub mod Finding
