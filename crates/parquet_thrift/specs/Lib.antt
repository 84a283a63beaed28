pub mod Cursor
pub mod Numbers
pub mod Values
pub mod Front
pub mod Skipping
