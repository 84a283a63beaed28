pub mod AddLemmas
pub mod Appended
mod Examples
pub mod HexLemmas
pub mod Joined
pub mod NumberLemmas
pub mod PlainLemmas
pub mod RowLemmas
pub mod TakenLemmas
pub mod TextLemmas
