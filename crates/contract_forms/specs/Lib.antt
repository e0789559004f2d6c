pub mod Fractions
pub mod Readings
pub mod Heads
pub mod Targets
pub mod Pures
pub mod Reach
pub mod Faults
