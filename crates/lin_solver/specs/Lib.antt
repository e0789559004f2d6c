pub mod Numbers
pub mod Stops
pub mod Variables
pub mod Levels
pub mod WayBack
pub mod Answers
pub mod Narrow
