mod Literals
mod Ranges
