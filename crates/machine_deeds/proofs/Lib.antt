mod Stacks
mod Places
