use Rattle.std.proofs.Common.{ℕ, ◌<◌, ◌≡◌, inl, inr, true, List, length, get_or, refl, sym, ap, subst, ◌∙◌, arith}
use Rattle.std.proofs.lemmas.Bool.{cases_lt}
use Rattle.std.proofs.lemmas.Grind.{common_steps}
use Rattle.slab_file.proofs.lemmas.Moments.{leaves_both}
use Rattle.slab_node.specs.declared.batch.Fresh.{Fresh}
use Rattle.slab_node.specs.Left.{nothing}
use Rattle.slab_node.specs.Changes.{ChangesOnly}
use Rattle.slab_node.specs.Batches.{IsThere, is_in}
use Rattle.slab_node.proofs.lemmas.Batching.{at_end, begins, is_in_at}
use Rattle.slab_node.proofs.lemmas.Changing.{itself_within, nothing_within, changes_more, changes_nothing}
use Rattle.slab_node.proofs.batch.put_bodies.Goals as goal

default_same : (xs : List Fresh) (i : ℕ) (d e : Fresh) → i < length xs → get_or xs i d ≡ get_or xs i e
default_same xs i d e lt = grind (arith, common_steps)

pub loop-fresh-init : goal.loop-fresh-init
loop-fresh-init g c =
    let F = g.F.SlabFile in
    let s = c.args.shape in
    let batch = c.args.batch.now in
    let old = c.args.file.now in
    record {
      usable = c.requires.usable;
      clean = refl;
      calm = refl;
      longer = omega arith;
      bytes = changes_nothing s (is_in batch) nothing nothing (F.seen old);
      there = λ clean i d never. absurd (omega (arith, never));
      time = λ loose each.
          begins F.moment F.left_since F.may_leave old (ChangesOnly s (is_in batch) loose nothing (F.seen old)) (g.met.F.SlabFile.only_now old)
          (λ b may. changes_more s nothing loose nothing (is_in batch) loose nothing (F.seen old) b (nothing_within (is_in batch)) (itself_within loose) (itself_within nothing) (each b may));
    }

pub returns-in_err-put_body-clause-bytes : goal.returns-in_err-put_body-clause-bytes
returns-in_err-put_body-clause-bytes g c =
    let i = c.loop-fresh.fresh-index in
    let f = c.fresh-item.result in
    let batch = c.args.batch.now in
    let lt : i < length batch = omega (arith, c.loop-fresh-test.true, c.loop-fresh.auto.fresh-index-end) in
    let its : is_in batch f.slot ≡ true = rw c.fresh-item.is (is_in_at batch i f lt) in
    c.put_body.ensures.bytes (is_in batch) (g.F.SlabFile.seen c.args.file.now) its c.loop-fresh.invariant.bytes

pub returns-in_err-put_body-clause-any_moment : goal.returns-in_err-put_body-clause-any_moment
returns-in_err-put_body-clause-any_moment g c loose each =
    let F = g.F.SlabFile in
    let i = c.loop-fresh.fresh-index in
    let f = c.fresh-item.result in
    let batch = c.args.batch.now in
    let old = c.args.file.now in
    let mid = c.loop-fresh.file in
    let lt : i < length batch = omega (arith, c.loop-fresh-test.true, c.loop-fresh.auto.fresh-index-end) in
    let its : is_in batch f.slot ≡ true = rw c.fresh-item.is (is_in_at batch i f lt) in
    let P : List ℕ → Type 0 = ChangesOnly c.args.shape (is_in batch) loose nothing (F.seen old) in
    let so_far = c.loop-fresh.invariant.time loose each in
    leaves_both F.moment F.left_since F.may_leave old mid c.put_body.new.file P so_far
    (c.put_body.ensures.any_moment (is_in batch) loose (F.seen old) its (at_end F.moment F.left_since F.may_leave old mid P so_far (g.met.F.SlabFile.counts_now mid)))

pub loop-fresh-preserved : goal.loop-fresh-preserved
loop-fresh-preserved g c =
    let F = g.F.SlabFile in
    let i = c.loop-fresh.fresh-index in
    let f = c.fresh-item.result in
    let old = c.args.file.now in
    let mid = c.loop-fresh.file in
    let inv = c.loop-fresh.invariant in
    let batch = c.args.batch.now in
    let lt : i < length c.args.batch.now = omega (arith, c.loop-fresh-test.true, c.loop-fresh.auto.fresh-index-end) in
    let its : is_in batch f.slot ≡ true = rw c.fresh-item.is (is_in_at batch i f lt) in
    record {
      usable = c.put_body.ensures.usable;
      clean = c.put_body.ensures.clean ∙ inv.clean;
      calm = c.in_ok-put_body.ensures.cause ∙ inv.calm;
      longer = omega (arith, inv.longer, c.put_body.ensures.longer);
      bytes = c.put_body.ensures.bytes (is_in batch) (F.seen old) its inv.bytes;
      there = λ clean j d low. elim (cases_lt j i) [
        | inl earlier ↦
            let below : j < length c.args.batch.now = omega (arith, earlier, lt) in
            let was_clean = sym c.put_body.ensures.clean ∙ clean in
            c.in_ok-put_body.ensures.others (get_or c.args.batch.now j d) clean (c.requires.sizes j d below).slot
            (λ same. omega (arith, earlier, c.requires.apart j i d f below lt (same ∙ ap (λ x. x.slot) c.fresh-item.is)))
            (inv.there was_clean j d earlier)
        | inr from ↦
            let here : j ≡ i = omega (arith, from, low) in
            let same : f ≡ get_or c.args.batch.now j d = c.fresh-item.is ∙ default_same c.args.batch.now i f d lt ∙ ap (λ (n : ℕ). get_or c.args.batch.now n d) (sym here) in
            subst (λ (x : Fresh). IsThere c.args.shape (F.seen c.put_body.new.file) x) same (c.in_ok-put_body.ensures.there clean)
      ];
      time = λ loose each.
          let P : List ℕ → Type 0 = ChangesOnly c.args.shape (is_in batch) loose nothing (F.seen old) in
          let so_far = inv.time loose each in
          leaves_both F.moment F.left_since F.may_leave old mid c.put_body.new.file P so_far
          (c.put_body.ensures.any_moment (is_in batch) loose (F.seen old) its (at_end F.moment F.left_since F.may_leave old mid P so_far (g.met.F.SlabFile.counts_now mid)));
    }
