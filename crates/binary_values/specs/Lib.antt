pub mod Rebased
pub mod JoinedStrings
pub mod ByteStrings
pub mod ByteLeft
pub mod OwnBytes
pub mod ByteColumns
pub mod Iterated
pub mod ByteDecoder
