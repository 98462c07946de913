pub mod Rewired
