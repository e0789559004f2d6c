pub mod ScheduleText
pub mod Reading
pub mod Output
pub mod Playing
