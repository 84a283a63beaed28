pub mod MarkLemmas
pub mod KeptLemmas
pub mod TypeLemmas
pub mod ShownLemmas
