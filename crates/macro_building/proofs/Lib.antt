mod Building
mod Naming
mod Refusing
mod Sorts
