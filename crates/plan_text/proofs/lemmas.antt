-- What proofs of other crates may cite.
pub mod Standing
pub mod PlanLaws
