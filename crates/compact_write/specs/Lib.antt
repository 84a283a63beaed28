pub mod Written
pub mod Fields
pub mod Calls
pub mod ReadBack
