pub mod Links
pub mod Scenes
pub mod Openings
pub mod Verdicts
pub mod Judges
