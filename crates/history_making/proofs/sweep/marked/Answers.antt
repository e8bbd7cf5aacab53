use Rattle.std.proofs.Common.{ℕ, List, [], ◌∷◌, ◌++◌, map, take, ap, ◌∙◌}
use Rattle.std.proofs.lemmas.List.Elements.{All-push}
use Rattle.history_making.specs.declared.entry.Entry.{Entry}
use Rattle.history_making.specs.Numbers.{HasNumbers}
use Rattle.history_making.specs.Tellings.{told_entry, told_with}
use Rattle.history_making.specs.Drafts.{entry_of, entries_of}
use Rattle.history_making.proofs.Steps.{marked_step, told_step, room}
use Rattle.history_making.proofs.sweep.marked.Goals as goal

pub next_mark-mark-requires : goal.next_mark-mark-requires
next_mark-mark-requires c = room c.args.drafts.now c.loop-draft.draft-index c.loop-draft.last c.loop-draft.invariant.last c.loop-draft-test.true c.requires.few

pub loop-draft-preserved : goal.loop-draft-preserved
loop-draft-preserved c =
    let ds = c.args.drafts.now in
    let d = c.draft-item.result in
    let i = c.loop-draft.draft-index in
    let m = marked_step ds c.requires.sorted i d c.loop-draft-test.true c.draft-item.is c.loop-draft.last c.loop-draft.invariant.last c.next_mark-mark.result c.next_mark-mark.ensures in
    record {
      entries = c.in_ok-push.ensures.ok
          ∙ ap (λ (es : List Entry). es ++ c.in_ok-entry.field-0 ∷ []) c.loop-draft.invariant.entries
          ∙ ap (λ (e : Entry). map (told_entry (entries_of ds)) (entries_of (take i ds)) ++ e ∷ []) (c.in_ok-entry.ensures.entry ∙ ap (λ (n : ℕ). told_with n (entry_of d)) m.mark)
          ∙ told_step (entries_of ds) ds i d c.loop-draft-test.true c.draft-item.is;
      numbers = rw c.in_ok-push.ensures.ok (All-push HasNumbers c.loop-draft.entries c.in_ok-entry.field-0 c.loop-draft.invariant.numbers c.in_ok-entry.ensures.numbers);
      last = m;
    }
