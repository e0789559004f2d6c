mod Arguments
mod Anyone
mod Calling
mod Comparing
mod Depths
mod Entrances
mod Handling
mod Inheritance
mod Laid
pub mod Landings
mod Openings
mod Releasing
mod Unwinding
