pub mod Steps
pub mod Rules
pub mod Filling
pub mod ListLemmas
pub mod UnplacedLemmas
pub mod TreeLemmas
pub mod FooterLemmas
pub mod FileRows
pub mod EndLemmas
pub mod FailureLemmas
pub mod StructFronts
pub mod FrontLemmas
pub mod PageHeaderLemmas
pub mod TruthLemmas
pub mod ColumnIndexLemmas
pub mod PageIndexLemmas
pub mod EachLemmas
pub mod RawIndexLemmas
pub mod FieldLemmas
mod Examples
mod IndexExamples
pub mod SliceLemmas
