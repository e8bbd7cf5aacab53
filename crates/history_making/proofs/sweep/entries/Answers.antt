use Rattle.std.proofs.Common.{◌≡◌, ◌<◌, ◌≤◌, ◌*◌, ◌^◌, List, map, length, ap, arith}
use Rattle.std.proofs.lemmas.List.{length-map}
use Rattle.std.proofs.lemmas.Result.{IfOk-weaker}
use Rattle.protocol.specs.Seen.{record_of}
use Rattle.protocol.specs.History.{Entry as FullEntry, IsSorted}
use Rattle.history_making.specs.Books.{IsBook}
use Rattle.history_making.specs.Tellings.{IsHistoryOf, told_entry}
use Rattle.history_making.specs.Drafts.{entry_of, entries_of, AreKept}
use Rattle.history_making.proofs.Blocks.{told_blocks}
use Rattle.history_making.proofs.Drafting.{drafts_are_candidates, few_kept, kept_history}
use Rattle.history_making.proofs.sweep.entries.Goals as goal

pub kept-requires-clause-candidates : goal.kept-requires-clause-candidates
kept-requires-clause-candidates c =
    let drafts = c.in_ok-drafts.drafts.items in
    let are = drafts_are_candidates (map record_of c.args.records.now) drafts c.in_ok-drafts.ensures.candidates in
    rw c.as_slice.ensures.value are

pub marked-requires-clause-few : goal.marked-requires-clause-few
marked-requires-clause-few c =
    let rs = map record_of c.args.records.now in
    let few : length c.in_ok-kept.kept.items ≤ 2 * length c.in_ok-drafts.drafts.items = rw c.as_slice.ensures.value at c.in_ok-kept.ensures.few in
    let l = few_kept rs c.in_ok-drafts.drafts.items c.in_ok-drafts.ensures.candidates c.in_ok-kept.kept.items few c.requires.few in
    rw c.as_slice-2.ensures.value l

pub returns-clause-history : goal.returns-clause-history
returns-clause-history c =
    let rs = map record_of c.args.records.now in
    let first = c.args.first.now in
    let drafts = c.in_ok-drafts.drafts.items in
    let h : List FullEntry = entries_of c.as_slice-2.result.now in
    let kept : AreKept first (entries_of drafts) (entries_of c.in_ok-kept.kept.items) = rw c.as_slice.ensures.value at c.in_ok-kept.ensures.kept in
    let told = kept_history rs drafts c.in_ok-drafts.ensures.candidates first c.requires c.in_ok-drafts.ensures.sorted c.in_ok-kept.kept.items kept in
    let is : IsHistoryOf rs first h = rw c.as_slice-2.ensures.value told in
    IfOk-weaker c.marked.result (λ es. es ≡ map (told_entry h) h) _ (λ es e. (h, is, e)) c.marked.ensures.entries

pub returns-clause-book : goal.returns-clause-book
returns-clause-book c =
    let rs = map record_of c.args.records.now in
    let first = c.args.first.now in
    let drafts = c.in_ok-drafts.drafts.items in
    let h : List FullEntry = entries_of c.as_slice-2.result.now in
    let few : length c.in_ok-kept.kept.items ≤ 2 * length drafts = rw c.as_slice.ensures.value at c.in_ok-kept.ensures.few in
    let l = few_kept rs drafts c.in_ok-drafts.ensures.candidates c.in_ok-kept.kept.items few c.requires.few in
    let m : length c.as_slice-2.result.now < 2 ^ 32 = rw c.as_slice-2.ensures.value l in
    let kept : AreKept first (entries_of drafts) (entries_of c.in_ok-kept.kept.items) = rw c.as_slice.ensures.value at c.in_ok-kept.ensures.kept in
    let sorted : IsSorted h = rw c.as_slice-2.ensures.value kept.sorted in
    IfOk-weaker c.marked.result (λ es. es ≡ map (told_entry h) h) (λ es. IsBook es)
    (λ es e. record { few = omega (arith, m, ap length e, length-map h (told_entry h), length-map c.as_slice-2.result.now entry_of); blocks = rw e (told_blocks h h sorted) })
    c.marked.ensures.entries
