-- Lemmas of `Law`.
use Rattle.journals.proofs.lemmas.Law.{merge_once, are_ordered, are_numbered, are_shown}
use Rattle.journals.proofs.laws.one_merge.Goals as goal

pub returns-clause-once : goal.returns-clause-once
returns-clause-once c = merge_once

pub returns-clause-ordered : goal.returns-clause-ordered
returns-clause-ordered c = are_ordered

pub returns-clause-numbered : goal.returns-clause-numbered
returns-clause-numbered c = are_numbered

pub returns-clause-shown : goal.returns-clause-shown
returns-clause-shown c = are_shown
