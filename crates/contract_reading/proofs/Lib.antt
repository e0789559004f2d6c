mod Given
mod Chained
mod Behind
mod Openings
mod Marked
mod Rooms
