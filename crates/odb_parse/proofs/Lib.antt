pub mod Answering
pub mod Behind
pub mod ColumnsRead
pub mod DefinitionsFit
pub mod Fits
pub mod Following
pub mod Lexed
pub mod ListsFit
pub mod Once
pub mod PredicatesFit
pub mod PredicatesRead
pub mod Primitives
pub mod Rooms
pub mod Shorter
pub mod StatementsFit
pub mod StatementsRead
pub mod StepsFit
pub mod SumsFit
pub mod SumsRead
pub mod Takes
pub mod Texts
pub mod TokensRead
pub mod Words
mod Between
mod Digits
