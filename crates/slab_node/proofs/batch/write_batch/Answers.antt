use Rattle.std.proofs.Common.{◌⊎◌, inl, inr, ℕ, List, sym, ◌∙◌, arith, IsTrue}
use Rattle.slab_file.proofs.lemmas.Moments.{leaves_both}
use Rattle.slot_disk.proofs.lemmas.Moments.{leaves_only_weaker}
use Rattle.slab_node.specs.Left.{nothing}
use Rattle.slab_node.specs.Changes.{ChangesOnly}
use Rattle.slab_node.specs.Batches.{IsMidway, is_in}
use Rattle.slab_node.proofs.lemmas.Batching.{at_end, half_of}
use Rattle.slab_node.proofs.batch.write_batch.Goals as goal

pub mark_batch-requires-clause-long : goal.mark_batch-requires-clause-long
mark_batch-requires-clause-long g c clean = omega (arith, c.requires.long (sym c.put_bodies.ensures.clean ∙ clean), c.put_bodies.ensures.longer)

pub returns-in-Ok-clause-written : goal.returns-in-Ok-clause-written
returns-in-Ok-clause-written g c clean =
    let F = g.F.SlabFile in
    let clean_mid : IsTrue (F.is_clean c.put_bodies.new.file) = sym c.mark_batch.ensures.clean ∙ clean in
    record {
      half = half_of c.args.shape c.args.batch.now (F.seen c.args.file.now) (F.seen c.put_bodies.new.file) (F.seen c.mark_batch.new.file)
          c.put_bodies.ensures.bytes (c.in_default.ensures.there clean_mid) c.in-Ok.ensures.bytes;
      marked = c.in-Ok.ensures.marked clean;
    }

pub returns-in-Err-clause-any_moment : goal.returns-in-Err-clause-any_moment
returns-in-Err-clause-any_moment g c loose clean each =
    let F = g.F.SlabFile in
    let P : List ℕ → Type 0 = ChangesOnly c.args.shape (is_in c.args.batch.now) loose nothing (F.seen c.args.file.now) in
    let Q : List ℕ → Type 0 = IsMidway c.args.shape loose c.args.batch.now (F.seen c.args.file.now) in
    leaves_only_weaker F.moment F.left_since c.args.file.now c.put_bodies.new.file P Q (λ b changes. inl changes) (c.put_bodies.ensures.any_moment loose each)

pub returns-in-Ok-clause-any_moment : goal.returns-in-Ok-clause-any_moment
returns-in-Ok-clause-any_moment g c loose clean each =
    let F = g.F.SlabFile in
    let old = c.args.file.now in
    let mid = c.put_bodies.new.file in
    let s = c.args.shape in
    let batch = c.args.batch.now in
    let P : List ℕ → Type 0 = ChangesOnly s (is_in batch) loose nothing (F.seen old) in
    let Q : List ℕ → Type 0 = IsMidway s loose batch (F.seen old) in
    let marks : List ℕ → Type 0 = λ b. F.may_leave mid b ⊎ ChangesOnly s nothing (is_in batch) nothing (F.seen mid) b in
    let so_far = c.put_bodies.ensures.any_moment loose each in
    let clean_mid : IsTrue (F.is_clean mid) = sym c.mark_batch.ensures.clean ∙ clean in
    let first = leaves_only_weaker F.moment F.left_since old mid P Q (λ b changes. inl changes) so_far in
    leaves_both F.moment F.left_since F.may_leave old mid c.mark_batch.new.file Q first
    (leaves_only_weaker F.moment F.left_since mid c.mark_batch.new.file marks Q
    (λ b left. elim left [
      | inl may ↦ inl (at_end F.moment F.left_since F.may_leave old mid P so_far (g.met.F.SlabFile.counts_now mid) b may)
      | inr changes ↦ inr (half_of s batch (F.seen old) (F.seen mid) b c.put_bodies.ensures.bytes (c.in_default.ensures.there clean_mid) changes)
    ])
    c.mark_batch.ensures.any_moment)

pub returns-in-Err-mark_batch-clause-any_moment : goal.returns-in-Err-mark_batch-clause-any_moment
returns-in-Err-mark_batch-clause-any_moment g c loose clean each =
    let F = g.F.SlabFile in
    let old = c.args.file.now in
    let mid = c.put_bodies.new.file in
    let s = c.args.shape in
    let batch = c.args.batch.now in
    let P : List ℕ → Type 0 = ChangesOnly s (is_in batch) loose nothing (F.seen old) in
    let Q : List ℕ → Type 0 = IsMidway s loose batch (F.seen old) in
    let marks : List ℕ → Type 0 = λ b. F.may_leave mid b ⊎ ChangesOnly s nothing (is_in batch) nothing (F.seen mid) b in
    let so_far = c.put_bodies.ensures.any_moment loose each in
    let clean_mid : IsTrue (F.is_clean mid) = sym c.mark_batch.ensures.clean ∙ clean in
    let first = leaves_only_weaker F.moment F.left_since old mid P Q (λ b changes. inl changes) so_far in
    leaves_both F.moment F.left_since F.may_leave old mid c.mark_batch.new.file Q first
    (leaves_only_weaker F.moment F.left_since mid c.mark_batch.new.file marks Q
    (λ b left. elim left [
      | inl may ↦ inl (at_end F.moment F.left_since F.may_leave old mid P so_far (g.met.F.SlabFile.counts_now mid) b may)
      | inr changes ↦ inr (half_of s batch (F.seen old) (F.seen mid) b c.put_bodies.ensures.bytes (c.in_default.ensures.there clean_mid) changes)
    ])
    c.mark_batch.ensures.any_moment)
