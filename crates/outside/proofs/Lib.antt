mod Held
mod Listed
mod Reading
mod Sending
mod Tallies
mod Writing
