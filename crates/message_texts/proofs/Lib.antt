pub mod lemmas
pub mod Fronts
pub mod Pieces
pub mod Forms
pub mod Grammar
