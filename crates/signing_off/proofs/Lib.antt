mod Naming
mod Reading
mod Refusing
mod Signs
mod Sorts
