mod Lists
mod Order
mod Column
mod Paths
mod Runs
