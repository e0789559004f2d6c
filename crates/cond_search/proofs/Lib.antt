mod Plainness
mod Orders
mod Proposing
mod Telling
mod Counts
mod Branching
mod Fitness
mod Finding
