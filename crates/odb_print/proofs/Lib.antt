mod Appends
pub mod Canonical
pub mod CanonicalFolds
pub mod CanonicalParts
pub mod CanonicalPredicates
pub mod CanonicalRight
mod Joins
pub mod Tokens
pub mod TokensCanonical
pub mod TokensOne
pub mod TokensParts
pub mod TokensStatements
pub mod Lexemes
