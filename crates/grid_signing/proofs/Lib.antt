mod Refusing
mod Signs
