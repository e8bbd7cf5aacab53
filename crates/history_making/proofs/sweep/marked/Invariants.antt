use Rattle.std.proofs.Common.{◌≡◌, take, map, MatchOption, All}
use Rattle.history_making.specs.Tellings.{told_entry}
use Rattle.history_making.specs.Numbers.{HasNumbers}
use Rattle.history_making.specs.Drafts.{entries_of}
use Rattle.history_making.proofs.Steps.{IsMarked}
use Rattle.history_making.proofs.sweep.marked.Given as goal

abbrev pub invariant-loop-draft : goal.invariant-loop-draft
invariant-loop-draft l = record {
  entries : l.entries ≡ map (told_entry (entries_of l.drafts)) (entries_of (take l.draft-index l.drafts));
  numbers : All HasNumbers l.entries;
  last : MatchOption l.last (l.draft-index ≡ 0) (λ p. IsMarked l.drafts l.draft-index p.0.now p.1);
}
