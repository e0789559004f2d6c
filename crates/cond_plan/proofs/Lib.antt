mod Places
mod Standing
mod Counted
mod Sorted
mod Comparing
pub mod Asking
pub mod Knowing
pub mod Numbers
