pub mod AtEnd
pub mod Appended
pub mod InOrder
pub mod Known
pub mod Maximal
pub mod RisingRuns
pub mod Shares
pub mod Unique
