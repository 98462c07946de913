mod Pins
mod Stages
mod Built
