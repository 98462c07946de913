mod Along
mod Merged
mod Orders
mod Reach
