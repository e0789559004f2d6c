mod Meant
pub mod Putting
pub mod Facts
pub mod Reading
pub mod Sides
pub mod Chained
pub mod Ruled
mod Splitting
mod Combining
pub mod Sound
pub mod Narrow
pub mod Replying
pub mod Figuring
pub mod Symbols
pub mod RowFitting
mod Existing
pub mod Adding
pub mod Counting
pub mod Numbering
pub mod Pairing
pub mod Applying
mod Sided
mod Derived
