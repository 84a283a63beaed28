pub mod Answered
pub mod FieldStatistics
pub mod FieldTypes
pub mod PageMaps
pub mod PageStatistics
pub mod Sides
pub mod Told
