pub mod Answering
pub mod OneFront
pub mod SomeFront
pub mod SmallFronts
