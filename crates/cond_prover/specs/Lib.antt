pub mod Proofs
pub mod Settled
