mod Adding
mod Lower
mod Beside
mod Bases
mod Ended
