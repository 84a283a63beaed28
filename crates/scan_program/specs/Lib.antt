pub mod Parsed
pub mod Program
pub mod Report
pub mod Sampled
pub mod Words
