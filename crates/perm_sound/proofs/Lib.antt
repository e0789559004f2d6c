mod SmallItems
mod OneUnit
mod Pops
mod Keeps
mod Items
mod Steps
mod Runs
