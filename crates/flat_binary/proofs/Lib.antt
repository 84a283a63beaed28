mod BeginLemmas
mod CellLemmas
mod CollectLemmas
mod ColumnLemmas
mod JoinedLemmas
mod KeyLemmas
pub mod PageLists
