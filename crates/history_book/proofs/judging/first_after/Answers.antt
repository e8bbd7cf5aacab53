use Rattle.std.proofs.Common.{◌≡◌, ℕ, Some, true, false, length, refl, sym, ◌∙◌, subst, arith, below_more}
use Rattle.std.specs.Prelude.{slice_get}
use Rattle.std.proofs.lemmas.Option.{slice_get_read, slice_get_within}
use Rattle.history_making.specs.declared.entry.Entry.{Entry}
use Rattle.history_book.specs.Sweeps.{StartsAfter}
use Rattle.history_book.proofs.judging.first_after.Goals as goal
use Rattle.history_book.proofs.judging.first_after.Goals.{else-entry-block-via-then-entry-block+else-starts_after, else-entry-block-via-else-entry-block}

pub loop-i-preserved : goal.loop-i-preserved
loop-i-preserved c =
    let entries = c.args.entries.now in
    let x = c.index-entries-i.result in
    let there : slice_get entries c.loop-i.i ≡ Some x = slice_get_read entries (length entries) c.loop-i.i x refl (omega arith) c.index-entries-i.is in
    let here : StartsAfter c.args.block c.args.end x → ⊥ = λ h. elim c.else-entry-block.branch [
      | else-entry-block-via-then-entry-block+else-starts_after w ↦ let yes = w.starts_after.ensures.1 (h.start, h.starts, h.after) in let clash : false ≡ true = sym w.if-starts_after.false ∙ yes in absurd cc
      | else-entry-block-via-else-entry-block w ↦ w.if-entry-block.false h.of_block
    ] in
    λ k e lt at h. below_more (λ (j : ℕ). (f : Entry) → slice_get entries j ≡ Some f → StartsAfter c.args.block c.args.end f → ⊥) c.loop-i.i (λ j low f. c.loop-i.invariant j f low) (λ f is. let same : Some x ≡ Some f = sym there ∙ is in let equal : x ≡ f = cc in subst (λ (g : Entry). StartsAfter c.args.block c.args.end g → ⊥) equal here) k lt e at h

pub returns-clause-none : goal.returns-clause-none
returns-clause-none c = λ k e at. let lt = slice_get_within c.args.entries.now k e at in c.loop-i.invariant k e (omega arith) at
