pub mod RangeOrder
pub mod ReadSet
pub mod Transaction
