mod Blocks
mod Cases
mod Reaching
mod Rounds
