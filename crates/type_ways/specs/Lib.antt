pub mod Sights
pub mod Settings
pub mod Ends
pub mod Ways
