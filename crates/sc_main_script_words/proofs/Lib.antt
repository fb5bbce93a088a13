pub mod Escapes
pub mod TokenLaws
pub mod NumberLaws
pub mod PlainTokens
pub mod Chains
pub mod Tests
pub mod RecordedPairs
