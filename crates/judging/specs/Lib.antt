pub mod Texts
pub mod Judging
pub mod Stage
pub mod inside
