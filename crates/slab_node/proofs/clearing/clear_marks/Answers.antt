use Rattle.std.proofs.Common.{◌≡◌, inl, inr, ℕ, ◌<◌, ◌≤◌, true, false, List, length, get_or, sym, ap, subst, ◌∙◌, arith, IsTrue, eqb, eqb-true}
use Rattle.std.proofs.lemmas.Bool.{cases_lt, cases_Bool, eqb-false}
use Rattle.std.proofs.lemmas.Grind.{common_steps}
use Rattle.slab_layout.specs.Shapes.{is_marked, slab_len}
use Rattle.slab_node.specs.Left.{nothing}
use Rattle.slab_node.specs.Changes.{ChangesOnly, AreAllOf, is_among}
use Rattle.slab_node.proofs.lemmas.Batching.{at_end, mark_goes, mark_same_at}
use Rattle.slab_node.proofs.lemmas.Changing.{among_at, among_place, changes_torn, changes_between, mark_is, writes_on}
use Rattle.slab_node.proofs.clearing.clear_marks.Goals as goal

default_same : (xs : List ℕ) (i d e : ℕ) → i < length xs → get_or xs i d ≡ get_or xs i e
default_same xs i d e lt = grind (arith, common_steps)

pub write_at-requires-clause-within : goal.write_at-requires-clause-within
write_at-requires-clause-within g c clean =
    let was : IsTrue (g.F.SlabFile.is_clean c.args.file.now) = sym c.loop-slot.invariant.clean ∙ clean in
    omega (arith, c.requires.long was, c.loop-slot.invariant.bytes.no_shorter, c.mark_at.ensures.within)

pub returns-in_err-write_at-clause-bytes : goal.returns-in_err-write_at-clause-bytes
returns-in_err-write_at-clause-bytes g c =
    let F = g.F.SlabFile in
    let s = c.args.shape in
    let i = c.loop-slot.slot-index in
    let all = c.args.slots.now in
    let x : ℕ = get_or all i 0 in
    let old = c.args.file.now in
    let mid = c.loop-slot.file in
    let new = c.write_at.new.self in
    let base = F.seen old in
    let inv = c.loop-slot.invariant in
    let lt : i < length all = omega (arith, c.loop-slot-test.true, c.loop-slot.auto.slot-index-end) in
    let here : x < s.count = c.requires.slots i 0 lt in
    let loose : is_among all x ≡ true = among_at all i 0 lt in
    let may : AreAllOf s nothing (is_among all) nothing c.mark_at.result 1 = mark_is s nothing (is_among all) nothing x c.mark_at.result here loose c.mark_at.ensures.place in
    changes_torn s nothing (is_among all) nothing base c.mark_at.result 1 (F.seen mid) (F.seen new) inv.bytes may c.write_at.ensures.others

pub returns-in_err-write_at-clause-any_moment : goal.returns-in_err-write_at-clause-any_moment
returns-in_err-write_at-clause-any_moment g c only =
    let F = g.F.SlabFile in
    let s = c.args.shape in
    let i = c.loop-slot.slot-index in
    let all = c.args.slots.now in
    let x : ℕ = get_or all i 0 in
    let old = c.args.file.now in
    let mid = c.loop-slot.file in
    let new = c.write_at.new.self in
    let base = F.seen old in
    let inv = c.loop-slot.invariant in
    let lt : i < length all = omega (arith, c.loop-slot-test.true, c.loop-slot.auto.slot-index-end) in
    let here : x < s.count = c.requires.slots i 0 lt in
    let loose : is_among all x ≡ true = among_at all i 0 lt in
    let may : AreAllOf s nothing (is_among all) nothing c.mark_at.result 1 = mark_is s nothing (is_among all) nothing x c.mark_at.result here loose c.mark_at.ensures.place in
    let so_far = inv.time only in
    writes_on s nothing (is_among all) nothing F.moment F.left_since F.may_leave base c.mark_at.result 1 old mid new so_far
    (at_end F.moment F.left_since F.may_leave old mid (ChangesOnly s nothing (is_among all) nothing base) so_far (g.met.F.SlabFile.counts_now mid)) may c.write_at.ensures.crash c.write_at.ensures.time

pub loop-slot-preserved : goal.loop-slot-preserved
loop-slot-preserved g c =
    let F = g.F.SlabFile in
    let s = c.args.shape in
    let i = c.loop-slot.slot-index in
    let all = c.args.slots.now in
    let x : ℕ = get_or all i 0 in
    let old = c.args.file.now in
    let mid = c.loop-slot.file in
    let new = c.write_at.new.self in
    let base = F.seen old in
    let inv = c.loop-slot.invariant in
    let lt : i < length all = omega (arith, c.loop-slot-test.true, c.loop-slot.auto.slot-index-end) in
    let here : x < s.count = c.requires.slots i 0 lt in
    let loose : is_among all x ≡ true = among_at all i 0 lt in
    let may : AreAllOf s nothing (is_among all) nothing c.mark_at.result 1 = mark_is s nothing (is_among all) nothing x c.mark_at.result here loose c.mark_at.ensures.place in
    record {
      usable = c.write_at.ensures.usable;
      clean = c.write_at.ensures.clean ∙ inv.clean;
      calm = c.in_ok-write_at.ensures.faults ∙ inv.calm;
      same_length = λ clean.
          let mid_clean : IsTrue (F.is_clean mid) = inv.clean ∙ clean in
          let fits = c.requires.long clean in
          let same = inv.same_length clean in
          omega (arith, same, c.write_at.ensures.others.no_shorter, c.write_at.ensures.others.no_longer, fits, c.mark_at.ensures.within);
      bytes = changes_torn s nothing (is_among all) nothing base c.mark_at.result 1 (F.seen mid) (F.seen new) inv.bytes may c.write_at.ensures.others;
      cleared = λ clean j d low.
          let below : j < length all = omega (arith, low, lt) in
          let bound : get_or all j d < s.count = c.requires.slots j d below in
          let was_clean : IsTrue (F.is_clean old) = sym inv.clean ∙ sym c.write_at.ensures.clean ∙ clean in
          let long : slab_len s ≤ length base = c.requires.long was_clean in
          let come : is_marked s (F.seen new) x ≡ false = mark_goes s (F.seen new) c.mark_at.result x c.mark_at.ensures.place (c.in_ok-write_at.ensures.written (omega arith)) in
          elim (cases_Bool (eqb (get_or all j d) x)) [
            | inl same ↦ subst (λ (n : ℕ). is_marked s (F.seen new) n ≡ false) (sym (eqb-true _ _ same)) come
            | inr differs ↦ elim (cases_lt j i) [
              | inl earlier ↦
                  mark_same_at s (F.seen mid) (F.seen new) c.mark_at.result x (get_or all j d) c.mark_at.ensures.place c.write_at.ensures.others
                  (omega (arith, bound, long, inv.bytes.no_shorter)) (eqb-false _ _ differs) ∙ inv.cleared (sym c.write_at.ensures.clean ∙ clean) j d earlier
              | inr from ↦
                  let is_last : j ≡ i = omega (arith, from, low) in
                  let it : x ≡ get_or all j d = default_same all i 0 d lt ∙ ap (λ (n : ℕ). get_or all n d) (sym is_last) in
                  absurd (eqb-false _ _ differs (sym it))
            ]
          ];
      time = λ only.
          let so_far = inv.time only in
          writes_on s nothing (is_among all) nothing F.moment F.left_since F.may_leave base c.mark_at.result 1 old mid new so_far
          (at_end F.moment F.left_since F.may_leave old mid (ChangesOnly s nothing (is_among all) nothing base) so_far (g.met.F.SlabFile.counts_now mid)) may c.write_at.ensures.crash c.write_at.ensures.time;
    }

pub returns-in_err-write_at-clause-left : goal.returns-in_err-write_at-clause-left
returns-in_err-write_at-clause-left g c clean only left may_leave =
    let F = g.F.SlabFile in
    let s = c.args.shape in
    let i = c.loop-slot.slot-index in
    let all = c.args.slots.now in
    let x : ℕ = get_or all i 0 in
    let old = c.args.file.now in
    let mid = c.loop-slot.file in
    let new = c.write_at.new.self in
    let base = F.seen old in
    let inv = c.loop-slot.invariant in
    let lt : i < length all = omega (arith, c.loop-slot-test.true, c.loop-slot.auto.slot-index-end) in
    let here : x < s.count = c.requires.slots i 0 lt in
    let loose : is_among all x ≡ true = among_at all i 0 lt in
    let may : AreAllOf s nothing (is_among all) nothing c.mark_at.result 1 = mark_is s nothing (is_among all) nothing x c.mark_at.result here loose c.mark_at.ensures.place in
    let P : List ℕ → Type 0 = ChangesOnly s nothing (is_among all) nothing base in
    let so_far = inv.time only in
    let after = writes_on s nothing (is_among all) nothing F.moment F.left_since F.may_leave base c.mark_at.result 1 old mid new so_far
    (at_end F.moment F.left_since F.may_leave old mid P so_far (g.met.F.SlabFile.counts_now mid)) may c.write_at.ensures.crash c.write_at.ensures.time in
    let is_left : P left = at_end F.moment F.left_since F.may_leave old new P after (g.met.F.SlabFile.counts_now new) left may_leave in
    let is_seen : P (F.seen new) = changes_torn s nothing (is_among all) nothing base c.mark_at.result 1 (F.seen mid) (F.seen new) inv.bytes may c.write_at.ensures.others in
    let mid_clean : IsTrue (F.is_clean mid) = sym c.write_at.ensures.clean ∙ clean in
    let old_clean : IsTrue (F.is_clean old) = sym inv.clean ∙ mid_clean in
    let fits : slab_len s ≤ length base = c.requires.long old_clean in
    let same_mid : length (F.seen mid) ≡ length base = inv.same_length old_clean in
    let short : length (F.seen new) ≤ length base = omega (arith, same_mid, c.write_at.ensures.others.no_longer, fits, c.mark_at.ensures.within) in
    changes_between s nothing (is_among all) nothing base (F.seen new) left short (omega (arith, short, is_left.no_shorter)) is_seen is_left

pub returns-clause-left : goal.returns-clause-left
returns-clause-left g c clean only left may_leave =
    let F = g.F.SlabFile in
    let s = c.args.shape in
    let all = c.args.slots.now in
    let old = c.args.file.now in
    let new = c.loop-slot.file in
    let base = F.seen old in
    let inv = c.loop-slot.invariant in
    let P : List ℕ → Type 0 = ChangesOnly s nothing (is_among all) nothing base in
    let is_left : P left = at_end F.moment F.left_since F.may_leave old new P (inv.time only) (g.met.F.SlabFile.counts_now new) left may_leave in
    let old_clean : IsTrue (F.is_clean old) = sym inv.clean ∙ clean in
    let same : length (F.seen new) ≡ length base = inv.same_length old_clean in
    changes_between s nothing (is_among all) nothing base (F.seen new) left (omega (arith, same)) (omega (arith, same, is_left.no_shorter)) inv.bytes is_left

pub returns-clause-cleared : goal.returns-clause-cleared
returns-clause-cleared g c clean i lt is =
    let F = g.F.SlabFile in
    let at = among_place c.args.slots.now i is in
    let low : at.0 < c.loop-slot.slot-index = omega (arith, at.1, c.loop-slot-test.false, c.loop-slot.auto.slot-index-end) in
    subst (λ (n : ℕ). is_marked c.args.shape (F.seen c.loop-slot.file) n ≡ false) (at.2 0) (c.loop-slot.invariant.cleared clean at.0 0 low)
