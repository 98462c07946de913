pub mod ByteOrderLemmas
pub mod NumberingLemmas
pub mod NumberedLemmas
