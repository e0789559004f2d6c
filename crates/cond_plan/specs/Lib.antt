pub mod Applied
pub mod Compared
pub mod Listed
pub mod Known
pub mod Needs
pub mod Plans
pub mod PointValues
