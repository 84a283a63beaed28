pub mod Reading
pub mod Bytes
pub mod Varint
pub mod Failures
pub mod Intervals
pub mod Pieces
