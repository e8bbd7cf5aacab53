-- What proofs of other crates may cite.
pub mod EntryOrders
pub mod Fronts
pub mod Counted
