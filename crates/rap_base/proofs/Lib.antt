pub mod Bits
pub mod KeywordLemmas
pub mod Named
pub mod TokenSets
pub mod WordTable
