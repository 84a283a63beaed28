pub mod TextLemmas
pub mod CauseLemmas
pub mod CountLemmas
pub mod GroupLemmas
pub mod IndexLemmas
pub mod EndTypes
