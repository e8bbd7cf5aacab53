use Rattle.std.proofs.Common.{ℕ, ◌<◌, ◌≤◌, ◌≡◌, inl, inr, true, List, length, get_or, sym, ap, subst, ◌∙◌, arith, IsTrue}
use Rattle.std.proofs.lemmas.Bool.{cases_lt, cases_Bool, eqb-false}
use Rattle.std.proofs.lemmas.Grind.{common_steps}
use Rattle.std.proofs.Common.{eqb, eqb-true}
use Rattle.slab_layout.specs.Shapes.{is_marked, slab_len}
use Rattle.slab_node.specs.declared.batch.Fresh.{Fresh}
use Rattle.slab_node.specs.Left.{nothing}
use Rattle.slab_node.specs.Changes.{ChangesOnly, AreAllOf}
use Rattle.slab_node.specs.Batches.{is_in}
use Rattle.slab_node.proofs.lemmas.Changing.{changes_torn, mark_is, writes_on}
use Rattle.slab_node.proofs.lemmas.Batching.{is_in_at, at_end, mark_comes, mark_stays}
use Rattle.slab_node.proofs.batch.put_marks.Goals as goal

default_same : (xs : List Fresh) (i : ℕ) (d e : Fresh) → i < length xs → get_or xs i d ≡ get_or xs i e
default_same xs i d e lt = grind (arith, common_steps)

pub returns-in_err-write_at-clause-bytes : goal.returns-in_err-write_at-clause-bytes
returns-in_err-write_at-clause-bytes g c =
    let s = c.args.shape in
    let i = c.loop-fresh.fresh-index in
    let f = c.fresh-item.result in
    let batch = c.args.batch.now in
    let base = g.F.SlabFile.seen c.args.file.now in
    let lt : i < length batch = omega (arith, c.loop-fresh-test.true, c.loop-fresh.auto.fresh-index-end) in
    let slot : f.slot < s.count = rw c.fresh-item.is ((c.requires.slots i f lt).slot) in
    let loose : is_in batch f.slot ≡ true = rw c.fresh-item.is (is_in_at batch i f lt) in
    changes_torn s nothing (is_in batch) nothing base c.mark_at.result 1 (g.F.SlabFile.seen c.loop-fresh.file) (g.F.SlabFile.seen c.write_at.new.self) c.loop-fresh.invariant.bytes
    (mark_is s nothing (is_in batch) nothing f.slot c.mark_at.result slot loose c.mark_at.ensures.place) c.write_at.ensures.others

pub returns-in_err-write_at-clause-any_moment : goal.returns-in_err-write_at-clause-any_moment
returns-in_err-write_at-clause-any_moment g c only =
    let F = g.F.SlabFile in
    let s = c.args.shape in
    let i = c.loop-fresh.fresh-index in
    let f = c.fresh-item.result in
    let batch = c.args.batch.now in
    let old = c.args.file.now in
    let mid = c.loop-fresh.file in
    let base = F.seen old in
    let lt : i < length batch = omega (arith, c.loop-fresh-test.true, c.loop-fresh.auto.fresh-index-end) in
    let slot : f.slot < s.count = rw c.fresh-item.is ((c.requires.slots i f lt).slot) in
    let loose : is_in batch f.slot ≡ true = rw c.fresh-item.is (is_in_at batch i f lt) in
    let so_far = c.loop-fresh.invariant.time only in
    writes_on s nothing (is_in batch) nothing F.moment F.left_since F.may_leave base c.mark_at.result 1 old mid c.write_at.new.self so_far
    (at_end F.moment F.left_since F.may_leave old mid (ChangesOnly s nothing (is_in batch) nothing base) so_far (g.met.F.SlabFile.counts_now mid))
    (mark_is s nothing (is_in batch) nothing f.slot c.mark_at.result slot loose c.mark_at.ensures.place) c.write_at.ensures.crash c.write_at.ensures.time

pub loop-fresh-preserved : goal.loop-fresh-preserved
loop-fresh-preserved g c =
    let F = g.F.SlabFile in
    let s = c.args.shape in
    let i = c.loop-fresh.fresh-index in
    let f = c.fresh-item.result in
    let batch = c.args.batch.now in
    let old = c.args.file.now in
    let mid = c.loop-fresh.file in
    let new = c.write_at.new.self in
    let base = F.seen old in
    let inv = c.loop-fresh.invariant in
    let lt : i < length batch = omega (arith, c.loop-fresh-test.true, c.loop-fresh.auto.fresh-index-end) in
    let slot : f.slot < s.count = rw c.fresh-item.is ((c.requires.slots i f lt).slot) in
    let loose : is_in batch f.slot ≡ true = rw c.fresh-item.is (is_in_at batch i f lt) in
    let may : AreAllOf s nothing (is_in batch) nothing c.mark_at.result 1 = mark_is s nothing (is_in batch) nothing f.slot c.mark_at.result slot loose c.mark_at.ensures.place in
    record {
      usable = c.write_at.ensures.usable;
      clean = c.write_at.ensures.clean ∙ inv.clean;
      calm = c.in_ok-write_at.ensures.faults ∙ inv.calm;
      longer = omega (arith, inv.longer, c.write_at.ensures.others.no_shorter);
      bytes = changes_torn s nothing (is_in batch) nothing base c.mark_at.result 1 (F.seen mid) (F.seen new) inv.bytes may c.write_at.ensures.others;
      marked = λ clean j d low.
          let below : j < length batch = omega (arith, low, lt) in
          let g_slot = (c.requires.slots j d below).slot in
          let was_clean : IsTrue (F.is_clean old) = sym inv.clean ∙ sym c.write_at.ensures.clean ∙ clean in
          let long : slab_len s ≤ length (F.seen old) = c.requires.long was_clean in
          let come : is_marked s (F.seen new) f.slot ≡ true = mark_comes s (F.seen new) c.mark_at.result f.slot c.mark_at.ensures.place (c.in_ok-write_at.ensures.written (omega arith)) in
          elim (cases_Bool (eqb (get_or batch j d).slot f.slot)) [
            | inl same ↦ subst (λ (n : ℕ). is_marked s (F.seen new) n ≡ true) (sym (eqb-true _ _ same)) come
            | inr differs ↦ elim (cases_lt j i) [
              | inl earlier ↦
                  mark_stays s (F.seen mid) (F.seen new) c.mark_at.result f.slot (get_or batch j d).slot c.mark_at.ensures.place c.write_at.ensures.others
                  (omega (arith, g_slot, long, inv.longer)) (eqb-false _ _ differs) (inv.marked (sym c.write_at.ensures.clean ∙ clean) j d earlier)
              | inr from ↦
                  let here : j ≡ i = omega (arith, from, low) in
                  let it : f ≡ get_or batch j d = c.fresh-item.is ∙ default_same batch i f d lt ∙ ap (λ (n : ℕ). get_or batch n d) (sym here) in
                  absurd (eqb-false _ _ differs (ap (λ x. x.slot) (sym it)))
            ]
          ];
      time = λ only.
          let so_far = inv.time only in
          writes_on s nothing (is_in batch) nothing F.moment F.left_since F.may_leave base c.mark_at.result 1 old mid new so_far
          (at_end F.moment F.left_since F.may_leave old mid (ChangesOnly s nothing (is_in batch) nothing base) so_far (g.met.F.SlabFile.counts_now mid)) may
          c.write_at.ensures.crash c.write_at.ensures.time;
    }
