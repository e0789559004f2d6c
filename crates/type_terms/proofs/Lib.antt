pub mod Behind
pub mod Answering
