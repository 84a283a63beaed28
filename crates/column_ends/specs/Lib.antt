pub mod Told
pub mod Converted
pub mod Counted
pub mod Rules
pub mod ByRule
pub mod Laws
