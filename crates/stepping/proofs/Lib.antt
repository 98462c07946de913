mod Alike
mod Floating
mod Kept
mod Network
mod Within
