pub mod Ways
pub mod Firsts
pub mod Named
pub mod Pieced
pub mod Chained
pub mod Stacked
pub mod Limited
pub mod Refused
