mod Naming
mod Reading
mod Sorts
