pub mod Told
pub mod Elements
pub mod Items
pub mod Parts
