mod Checked
mod Refused
mod Within
