mod Counts
mod WholeUnit
mod Law
mod Arms
