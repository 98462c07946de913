mod Conflict
mod Failing
mod Groups
mod Judged
