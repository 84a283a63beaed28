pub mod Sample
pub mod Rows
pub mod Writing
pub mod Ends
pub mod Parts
