pub mod TextLines
pub mod SmallForms
pub mod SmallText
