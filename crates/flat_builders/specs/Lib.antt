pub mod Flat
pub mod Kept
pub mod Strings
pub mod Built
