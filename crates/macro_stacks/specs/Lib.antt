pub mod inside
