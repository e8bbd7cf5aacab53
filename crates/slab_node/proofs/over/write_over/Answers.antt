use Rattle.std.proofs.Common.{inl, ◌≤◌, ℕ, List, length, sym, ◌∙◌, arith, IsTrue}
use Rattle.slab_file.proofs.lemmas.Moments.{leaves_both}
use Rattle.slot_disk.proofs.lemmas.Moments.{leaves_only_weaker}
use Rattle.slab_layout.specs.Shapes.{slab_len}
use Rattle.slab_node.specs.Left.{nothing}
use Rattle.slab_node.specs.Changes.{ChangesOnly, AreUnmarked, is_among}
use Rattle.slab_node.specs.Batches.{IsMidway, IsMidwayOver, is_in}
use Rattle.slab_node.proofs.lemmas.Batching.{at_end, then_bodies, half_over, midway_over, unmarked_still}
use Rattle.slab_node.specs.declared.batch_fault.BatchFault.{BatchFault}
use Rattle.slab_node.specs.declared.batch_fault.BatchFault.TheVariants.{Unwritten, Broken}
use Rattle.slab_node.specs.Faults.{IfUnwritten}
use Rattle.slab_node.proofs.lemmas.Changing.{itself_within, nothing_within, changes_more}
use Rattle.slab_node.proofs.over.write_over.Goals as goal

if_unwritten_more : (f : BatchFault) (P Q R : Type 0) → IfUnwritten P f → Q → R → IfUnwritten (P × Q × R) f
if_unwritten_more (Unwritten fault) P Q R p q r = (p, q, r)
if_unwritten_more Broken P Q R p q r = tt

pub write_batch-requires-clause-long : goal.write_batch-requires-clause-long
write_batch-requires-clause-long g c clean = omega (arith, c.requires.long (sym c.clear_marks.ensures.clean ∙ clean), c.clear_marks.ensures.bytes.no_shorter)

pub returns-in-Err-clause-any_moment : goal.returns-in-Err-clause-any_moment
returns-in-Err-clause-any_moment g c clean only =
    let F = g.F.SlabFile in
    let s = c.args.shape in
    let going = is_among c.args.going.now in
    let batch = c.args.batch.now in
    let old = c.args.file.now in
    let mid = c.clear_marks.new.file in
    let P : List ℕ → Type 0 = ChangesOnly s nothing going nothing (F.seen old) in
    let Q : List ℕ → Type 0 = IsMidwayOver s going batch (F.seen old) in
    leaves_only_weaker F.moment F.left_since old mid P Q
    (λ b changes. inl (changes_more s nothing going nothing (is_in batch) going nothing (F.seen old) b (nothing_within (is_in batch)) (itself_within going) (itself_within nothing) changes))
    (c.clear_marks.ensures.any_moment only)

pub returns-in-Ok-clause-any_moment : goal.returns-in-Ok-clause-any_moment
returns-in-Ok-clause-any_moment g c new_clean only =
    let F = g.F.SlabFile in
    let s = c.args.shape in
    let going = is_among c.args.going.now in
    let batch = c.args.batch.now in
    let old = c.args.file.now in
    let mid = c.clear_marks.new.file in
    let P : List ℕ → Type 0 = ChangesOnly s nothing going nothing (F.seen old) in
    let Q : List ℕ → Type 0 = IsMidwayOver s going batch (F.seen old) in
    let mid_clean : IsTrue (F.is_clean mid) = sym c.write_batch.ensures.clean ∙ new_clean in
    let long : slab_len s ≤ length (F.seen mid) = omega (arith, c.requires.long (sym c.clear_marks.ensures.clean ∙ mid_clean), c.clear_marks.ensures.bytes.no_shorter) in
    let unmarked : AreUnmarked s going (F.seen mid) = c.in_default.ensures.cleared mid_clean in
    let first = leaves_only_weaker F.moment F.left_since old mid P Q
    (λ b changes. inl (changes_more s nothing going nothing (is_in batch) going nothing (F.seen old) b (nothing_within (is_in batch)) (itself_within going) (itself_within nothing) changes))
    (c.clear_marks.ensures.any_moment only) in
    let second = leaves_only_weaker F.moment F.left_since mid c.write_batch.new.file (IsMidway s going batch (F.seen mid)) Q
    (λ b at. midway_over s batch going (F.seen old) (F.seen mid) c.clear_marks.ensures.bytes b long unmarked at)
    (c.write_batch.ensures.any_moment going new_clean (c.clear_marks.ensures.left mid_clean only)) in
    let both = leaves_both F.moment F.left_since F.may_leave old mid c.write_batch.new.file Q first second in
    both

pub returns-in-Err-Broken-clause-any_moment : goal.returns-in-Err-Broken-clause-any_moment
returns-in-Err-Broken-clause-any_moment g c new_clean only =
    let F = g.F.SlabFile in
    let s = c.args.shape in
    let going = is_among c.args.going.now in
    let batch = c.args.batch.now in
    let old = c.args.file.now in
    let mid = c.clear_marks.new.file in
    let P : List ℕ → Type 0 = ChangesOnly s nothing going nothing (F.seen old) in
    let Q : List ℕ → Type 0 = IsMidwayOver s going batch (F.seen old) in
    let mid_clean : IsTrue (F.is_clean mid) = sym c.write_batch.ensures.clean ∙ new_clean in
    let long : slab_len s ≤ length (F.seen mid) = omega (arith, c.requires.long (sym c.clear_marks.ensures.clean ∙ mid_clean), c.clear_marks.ensures.bytes.no_shorter) in
    let unmarked : AreUnmarked s going (F.seen mid) = c.in_default.ensures.cleared mid_clean in
    let first = leaves_only_weaker F.moment F.left_since old mid P Q
    (λ b changes. inl (changes_more s nothing going nothing (is_in batch) going nothing (F.seen old) b (nothing_within (is_in batch)) (itself_within going) (itself_within nothing) changes))
    (c.clear_marks.ensures.any_moment only) in
    let second = leaves_only_weaker F.moment F.left_since mid c.write_batch.new.file (IsMidway s going batch (F.seen mid)) Q
    (λ b at. midway_over s batch going (F.seen old) (F.seen mid) c.clear_marks.ensures.bytes b long unmarked at)
    (c.write_batch.ensures.any_moment going new_clean (c.clear_marks.ensures.left mid_clean only)) in
    let both = leaves_both F.moment F.left_since F.may_leave old mid c.write_batch.new.file Q first second in
    both

pub returns-in-Err-Unwritten-clause-any_moment : goal.returns-in-Err-Unwritten-clause-any_moment
returns-in-Err-Unwritten-clause-any_moment g c clean only =
    let F = g.F.SlabFile in
    let s = c.args.shape in
    let going = is_among c.args.going.now in
    let batch = c.args.batch.now in
    let old = c.args.file.now in
    let mid = c.clear_marks.new.file in
    let new_clean : IsTrue (F.is_clean c.write_batch.new.file) = sym c.made_safe.ensures.clean ∙ clean in
    let P : List ℕ → Type 0 = ChangesOnly s nothing going nothing (F.seen old) in
    let Q : List ℕ → Type 0 = IsMidwayOver s going batch (F.seen old) in
    let mid_clean : IsTrue (F.is_clean mid) = sym c.write_batch.ensures.clean ∙ new_clean in
    let long : slab_len s ≤ length (F.seen mid) = omega (arith, c.requires.long (sym c.clear_marks.ensures.clean ∙ mid_clean), c.clear_marks.ensures.bytes.no_shorter) in
    let unmarked : AreUnmarked s going (F.seen mid) = c.in_default.ensures.cleared mid_clean in
    let first = leaves_only_weaker F.moment F.left_since old mid P Q
    (λ b changes. inl (changes_more s nothing going nothing (is_in batch) going nothing (F.seen old) b (nothing_within (is_in batch)) (itself_within going) (itself_within nothing) changes))
    (c.clear_marks.ensures.any_moment only) in
    let second = leaves_only_weaker F.moment F.left_since mid c.write_batch.new.file (IsMidway s going batch (F.seen mid)) Q
    (λ b at. midway_over s batch going (F.seen old) (F.seen mid) c.clear_marks.ensures.bytes b long unmarked at)
    (c.write_batch.ensures.any_moment going new_clean (c.clear_marks.ensures.left mid_clean only)) in
    let both = leaves_both F.moment F.left_since F.may_leave old mid c.write_batch.new.file Q first second in
    let each = at_end F.moment F.left_since F.may_leave old c.write_batch.new.file Q both (g.met.F.SlabFile.counts_now c.write_batch.new.file) in
    leaves_both F.moment F.left_since F.may_leave old c.write_batch.new.file c.made_safe.new.file Q both
    (leaves_only_weaker F.moment F.left_since c.write_batch.new.file c.made_safe.new.file (F.may_leave c.write_batch.new.file) Q each c.made_safe.ensures.any_moment)

pub returns-in-Ok-clause-written : goal.returns-in-Ok-clause-written
returns-in-Ok-clause-written g c new_clean =
    let F = g.F.SlabFile in
    let s = c.args.shape in
    let going = is_among c.args.going.now in
    let batch = c.args.batch.now in
    let old = c.args.file.now in
    let mid = c.clear_marks.new.file in
    let P : List ℕ → Type 0 = ChangesOnly s nothing going nothing (F.seen old) in
    let Q : List ℕ → Type 0 = IsMidwayOver s going batch (F.seen old) in
    let mid_clean : IsTrue (F.is_clean mid) = sym c.write_batch.ensures.clean ∙ new_clean in
    let long : slab_len s ≤ length (F.seen mid) = omega (arith, c.requires.long (sym c.clear_marks.ensures.clean ∙ mid_clean), c.clear_marks.ensures.bytes.no_shorter) in
    let unmarked : AreUnmarked s going (F.seen mid) = c.in_default.ensures.cleared mid_clean in
    let written = c.in-Ok.ensures.written new_clean in
    record {
      half = half_over s batch going (F.seen old) (F.seen mid) c.clear_marks.ensures.bytes (F.seen c.write_batch.new.file) long unmarked written.half;
      marked = written.marked;
    }

pub returns-in-Err-Unwritten-clause-unwritten : goal.returns-in-Err-Unwritten-clause-unwritten
returns-in-Err-Unwritten-clause-unwritten g c =
    let F = g.F.SlabFile in
    let s = c.args.shape in
    let going = is_among c.args.going.now in
    let batch = c.args.batch.now in
    let old = c.args.file.now in
    let mid = c.clear_marks.new.file in
    let new = c.made_safe.new.file in
    let un = rw c.in-Err-Unwritten.field-0-is at c.in-Err-Unwritten.ensures.unwritten in
    let second : ChangesOnly s (is_in batch) nothing nothing (F.seen mid) (F.seen new) = rw c.made_safe.ensures.bytes un.1 in
    if_unwritten_more c.made_safe.result (IsTrue (F.is_usable new)) (ChangesOnly s (is_in batch) going nothing (F.seen old) (F.seen new)) (IsTrue (F.is_clean new) → AreUnmarked s going (F.seen new))
    c.made_safe.ensures.usable
    (then_bodies s batch going (F.seen old) (F.seen mid) c.clear_marks.ensures.bytes (F.seen new) second) (λ clean.
    let mid_clean : IsTrue (F.is_clean mid) = sym c.write_batch.ensures.clean ∙ sym c.made_safe.ensures.clean ∙ clean in
    let long : slab_len s ≤ length (F.seen mid) = omega (arith, c.requires.long (sym c.clear_marks.ensures.clean ∙ mid_clean), c.clear_marks.ensures.bytes.no_shorter) in
    let unmarked : AreUnmarked s going (F.seen mid) = c.in_default.ensures.cleared mid_clean in
    unmarked_still s batch going (F.seen old) (F.seen mid) c.clear_marks.ensures.bytes (F.seen new) long unmarked second)
