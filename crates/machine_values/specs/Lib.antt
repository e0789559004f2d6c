pub mod Agreement
pub mod Bits
