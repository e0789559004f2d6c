mod Arguments
mod Opened
mod Plans
mod Locks
mod Commits
mod Kept
mod Running
mod BuiltItems
