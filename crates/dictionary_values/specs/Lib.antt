pub mod Keys
pub mod KeysGiven
pub mod DictLeft
pub mod EntryTypes
pub mod KeyStates
