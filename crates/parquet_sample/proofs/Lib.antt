mod Examples
pub mod RangeLemmas
pub mod LevelLemmas
pub mod ItemLemmas
pub mod BoundLemmas
pub mod OrderLemmas
pub mod NullLemmas
pub mod PageLemmas
pub mod GroupLemmas
pub mod FileLemmas
