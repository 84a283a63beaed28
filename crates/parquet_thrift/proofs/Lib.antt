pub mod Lengths
pub mod FieldLemmas
pub mod SkipLemmas
pub mod WalkLemmas
pub mod ElementLemmas
pub mod Depths
pub mod ValueLemmas
pub mod Fronts
