pub mod FoldedLemmas
pub mod KeyLemmas
pub mod EntryLemmas
pub mod HeadLemmas
