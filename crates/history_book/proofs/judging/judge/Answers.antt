use Rattle.std.proofs.Common.{◌≡◌, ◌+◌, Some, length, refl, sym, ap, subst, ◌∙◌, arith}
use Rattle.std.specs.Prelude.{slice_get}
use Rattle.std.proofs.lemmas.Option.{slice_get_read}
use Rattle.history_making.specs.declared.entry.Entry.{Entry}
use Rattle.history_making.specs.Books.{IsBook}
use Rattle.history_book.specs.Judging.{HasNoFlaw}
use Rattle.history_book.proofs.Flaws.{moved, sound, told_flawed, where_none}
use Rattle.history_book.proofs.Times.{same_entry}
use Rattle.history_book.proofs.judging.judge.Goals as goal

pub flaw_at-flaw-requires-clause-sweep : goal.flaw_at-flaw-requires-clause-sweep
flaw_at-flaw-requires-clause-sweep c =
    let entries = c.entries-entries.result.now in
    let x = c.index-entries-place.result in
    let book : IsBook entries = subst IsBook (sym c.entries-entries.ensures.is) c.entries-entries.ensures.book in
    let there : slice_get entries c.loop-place.place ≡ Some x = slice_get_read entries (length entries) c.loop-place.place x refl c.loop-place-test.true c.index-entries-place.is in
    (moved entries c.loop-place.place x c.loop-place.sweep c.at-sweep.result book.blocks there c.loop-place.invariant.sweep c.loop-place.invariant.block c.at-sweep.ensures.same c.at-sweep.ensures.other).1

pub returns-then-is_some-clause-illegal : goal.returns-then-is_some-clause-illegal
returns-then-is_some-clause-illegal c = told_flawed c.args.history.now.entries c.flaw_at-flaw.result (rw c.entries-entries.ensures.is at c.flaw_at-flaw.ensures.flaw)

pub loop-place-preserved : goal.loop-place-preserved
loop-place-preserved c =
    let entries = c.entries-entries.result.now in
    let place = c.loop-place.place in
    let x = c.index-entries-place.result in
    let book : IsBook entries = subst IsBook (sym c.entries-entries.ensures.is) c.entries-entries.ensures.book in
    let there : slice_get entries place ≡ Some x = slice_get_read entries (length entries) place x refl c.loop-place-test.true c.index-entries-place.is in
    let known = moved entries place x c.loop-place.sweep c.at-sweep.result book.blocks there c.loop-place.invariant.sweep c.loop-place.invariant.block c.at-sweep.ensures.same c.at-sweep.ensures.other in
    record {
      sweep = c.with-sweep.ensures.sweep entries there known.0 known.1;
      block = λ k e next at.
          let same : k ≡ place = omega arith in
          let here : e ≡ x = same_entry entries place e x (rw same at at) there in
          ap (λ (f : Entry). f.block) here ∙ known.0 ∙ sym c.with-sweep.ensures.block;
      none = where_none (HasNoFlaw entries (place + 1)) c.flaw_at-flaw.result (sym c.is_some.ensures ∙ c.if-is_some.false) c.flaw_at-flaw.ensures.none;
    }

pub returns-clause-none : goal.returns-clause-none
returns-clause-none c =
    let is = c.entries-entries.ensures.is in
    sound c.args.history.now.entries c.loop-place.place (omega (arith, ap length is)) (rw is at c.loop-place.invariant.none)
