mod Added
mod Least
mod Sited
