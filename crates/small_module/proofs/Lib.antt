pub mod Positions
pub mod Bodies
pub mod Kept
pub mod Views
pub mod SumShapes
pub mod Shapes
