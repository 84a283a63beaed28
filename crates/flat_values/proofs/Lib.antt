pub mod ConversionLemmas
mod OrderLemmas
pub mod ExtendLemmas
mod NumberLemmas
mod ItemLemmas
mod CountLemmas
pub mod WordLemmas
pub mod SpreadLemmas
pub mod MaskLemmas
pub mod DecodedLemmas
pub mod OutcomeLemmas
pub mod TruthLemmas
pub mod NullLemmas
pub mod KeyLemmas
pub mod AddedLemmas
pub mod TakeLemmas
pub mod PlainTakes
pub mod NumberPlaces
pub mod FixedPlaceLemmas
pub mod FlatLemmas
pub mod AgreementLemmas
pub mod PageLemmas
pub mod PlainLemmas
pub mod EndLemmas
pub mod Examples
pub mod ReaderLemmas
pub mod ArrayLemmas
mod StringLemmas
pub mod PairLemmas
pub mod StateLemmas
pub mod CauseLemmas
pub mod NullColumn
pub mod StringPlaces
