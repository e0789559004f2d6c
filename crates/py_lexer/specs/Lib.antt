pub mod LongestForms
pub mod PieceForms
pub mod StringReading
pub mod Walk
