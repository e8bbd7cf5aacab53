use Rattle.std.proofs.Common.{◌≡◌, ℕ, ◌+◌, ◌-◌, ◌<◌, Bool, not, ◌&&◌, List, ◌++◌, length, take, drop, Option, option_map, refl, ap, ◌∙◌, arith}
use Rattle.std.specs.List.{slice_get}
use Rattle.std.proofs.Math.Seq.{drop-length}
use Rattle.stamp_order.specs.Stamps.{same_stamp}
use Rattle.protocol.specs.History.{Entry}
use Rattle.history_making.specs.declared.draft.Draft.{Draft}
use Rattle.history_making.specs.Drafts.{entry_of, entries_of, entries_at, is_of_some}
use Rattle.history_making.proofs.Sweeps.{sweep}
use Rattle.history_making.proofs.Steps.{kept_first, kept_step, read_step, kept_whole, kept_length, map_reverse}
use Rattle.history_making.proofs.sweep.kept.Goals as goal

pub loop-left-init : goal.loop-left-init
loop-left-init c =
    let ds = c.args.drafts.now in
    record {
      in_range = omega arith;
      swept = rw c.new-kept.ensures.items (kept_first c.args.first.now ds);
      next = rw (drop-length ds) refl;
    }

pub loop-left-preserved : goal.loop-left-preserved
loop-left-preserved c =
    let ds = c.args.drafts.now in
    let first = c.args.first.now in
    let d = c.index-drafts-left.result in
    let left = c.loop-left.left in
    let k : ℕ = left - 1 in
    let below : k < length ds = omega (arith, c.loop-left.invariant.in_range, c.loop-left-test.true) in
    let next : left ≡ k + 1 = omega (arith, c.loop-left-test.true) in
    let at = c.index-drafts-left.is in
    let later : Option Entry = option_map entry_of c.loop-left.read in
    let rest : List Entry = sweep first (entries_of (take left ds)) (entries_of (drop left ds)) in
    let was_read : c.shares_version-was_read.result ≡ is_of_some (entry_of d) later = c.shares_version-was_read.ensures ∙ ap (λ (o : Option Draft). is_of_some (entry_of d) (option_map entry_of o)) c.as_ref.ensures.value in
    record {
      in_range = omega (arith, c.loop-left.invariant.in_range);
      swept = c.in_ok-keep.ensures
          ∙ ap (λ (es : List Entry). entries_at c.saw_foreign-foreign.result c.shares_version-was_read.result (entry_of d) ++ es) c.loop-left.invariant.swept
          ∙ ap (λ (b : Bool). entries_at b c.shares_version-was_read.result (entry_of d) ++ rest) c.saw_foreign-foreign.ensures
          ∙ ap (λ (b : Bool). entries_at (not (is_of_some (entry_of d) (option_map entry_of (slice_get (take k ds) (length (take k ds) - 1)))) && not (same_stamp d.stamp.now first)) b (entry_of d) ++ rest) was_read
          ∙ kept_step first ds left k d below next at later c.loop-left.invariant.next c.requires.sorted;
      next = c.nearest_read-read.ensures ∙ read_step first ds left k d below next at later c.loop-left.invariant.next;
    }

pub returns-clause-kept : goal.returns-clause-kept
returns-clause-kept c =
    let ds = c.args.drafts.now in
    let zero : c.loop-left.left ≡ 0 = omega (arith, c.loop-left-test.false) in
    kept_whole c.args.first.now ds c.reverse.new.self.items
    (ap entries_of c.reverse.ensures.items ∙ map_reverse entry_of c.loop-left.kept.items ∙ c.loop-left.invariant.swept ∙ ap (λ (j : ℕ). sweep c.args.first.now (entries_of (take j ds)) (entries_of (drop j ds))) zero)
    c.requires.sorted c.requires.candidates

pub returns-clause-few : goal.returns-clause-few
returns-clause-few c =
    let ds = c.args.drafts.now in
    let zero : c.loop-left.left ≡ 0 = omega (arith, c.loop-left-test.false) in
    kept_length c.args.first.now ds c.reverse.new.self.items
    (ap entries_of c.reverse.ensures.items ∙ map_reverse entry_of c.loop-left.kept.items ∙ c.loop-left.invariant.swept ∙ ap (λ (j : ℕ). sweep c.args.first.now (entries_of (take j ds)) (entries_of (drop j ds))) zero)
