use Rattle.std.proofs.Common.{◌≡◌, inl, inr, ℕ, false, List, sym, ◌∙◌, arith, subst, IsTrue}
use Rattle.std.specs.Prelude.{All}
use Rattle.slab_file.proofs.lemmas.Moments.{leaves_both}
use Rattle.slot_disk.proofs.lemmas.Moments.{leaves_only_weaker}
use Rattle.slab_layout.specs.Shapes.{answers_for}
use Rattle.slab_layout.specs.declared.shape.Shape.{Shape}
use Rattle.slab_node.specs.Left.{nothing}
use Rattle.slab_node.specs.Changes.{ChangesOnly, is_among}
use Rattle.slab_node.specs.Batches.{IsMidwayOver}
use Rattle.slab_node.specs.Renewals.{IsSilenced, IsRewrittenInPart}
use Rattle.slab_node.proofs.lemmas.Changing.{among_place}
use Rattle.slab_node.proofs.renewing.renew_blocks.Goals as goal

silenced_by : (s : Shape) (blocks : List ℕ) (old mid : List ℕ) → ChangesOnly s nothing nothing (is_among blocks) old mid → All (λ b. answers_for s mid b ≡ false) blocks → IsSilenced s (is_among blocks) old mid
silenced_by s blocks old mid bytes told = record {
  bytes = bytes;
  unanswered = λ b lt is. (let at = among_place blocks b is in subst (λ (n : ℕ). answers_for s mid n ≡ false) (at.2 0) (told at.0 0 at.1));
}

pub write_over-requires-clause-long : goal.write_over-requires-clause-long
write_over-requires-clause-long g c clean = omega (arith, c.requires.long (sym c.answer_safely.ensures.clean ∙ clean), c.answer_safely.ensures.bytes.no_shorter)

pub returns-in-Err-clause-any_moment : goal.returns-in-Err-clause-any_moment
returns-in-Err-clause-any_moment g c clean only =
    let F = g.F.SlabFile in
    let s = c.args.shape in
    let blocks = is_among c.args.blocks.now in
    let going = is_among c.args.going.now in
    let batch = c.args.batch.now in
    let old = c.args.file.now in
    let mid = c.answer_safely.new.file in
    leaves_only_weaker F.moment F.left_since old mid (ChangesOnly s nothing nothing blocks (F.seen old)) (IsRewrittenInPart s blocks going batch (F.seen old)) (λ b changes. inl changes) (c.answer_safely.ensures.any_moment only)

pub returns-in_err-write_over-clause-any_moment : goal.returns-in_err-write_over-clause-any_moment
returns-in_err-write_over-clause-any_moment g c last_clean only =
    let F = g.F.SlabFile in
    let s = c.args.shape in
    let blocks = is_among c.args.blocks.now in
    let going = is_among c.args.going.now in
    let batch = c.args.batch.now in
    let old = c.args.file.now in
    let mid = c.answer_safely.new.file in
    let last = c.write_over.new.file in
    let Q : List ℕ → Type 0 = IsRewrittenInPart s blocks going batch (F.seen old) in
    let mid_clean : IsTrue (F.is_clean mid) = sym c.write_over.ensures.clean ∙ last_clean in
    let silenced : IsSilenced s blocks (F.seen old) (F.seen mid) = silenced_by s c.args.blocks.now (F.seen old) (F.seen mid) c.answer_safely.ensures.bytes (c.in_default.ensures.told mid_clean) in
    let first = leaves_only_weaker F.moment F.left_since old mid (ChangesOnly s nothing nothing blocks (F.seen old)) Q (λ b changes. inl changes) (c.answer_safely.ensures.any_moment only) in
    let second = leaves_only_weaker F.moment F.left_since mid last (IsMidwayOver s going batch (F.seen mid)) Q
    (λ b at. inr (inl (record { mid = F.seen mid; silenced = silenced; midway = at })))
    (c.write_over.ensures.any_moment last_clean c.in_default.ensures.safe) in
    let both = leaves_both F.moment F.left_since F.may_leave old mid last Q first second in
    both

pub returns-in-Ok-clause-rewritten : goal.returns-in-Ok-clause-rewritten
returns-in-Ok-clause-rewritten g c clean =
    let F = g.F.SlabFile in
    let s = c.args.shape in
    let blocks = is_among c.args.blocks.now in
    let going = is_among c.args.going.now in
    let batch = c.args.batch.now in
    let old = c.args.file.now in
    let mid = c.answer_safely.new.file in
    let last = c.write_over.new.file in
    let last_clean : IsTrue (F.is_clean last) = sym c.answer_safely-2.ensures.clean ∙ clean in
    let mid_clean : IsTrue (F.is_clean mid) = sym c.write_over.ensures.clean ∙ last_clean in
    record {
      mid = F.seen mid;
      silenced = silenced_by s c.args.blocks.now (F.seen old) (F.seen mid) c.answer_safely.ensures.bytes (c.in_default.ensures.told mid_clean);
      last = F.seen last;
      written = c.in_ok-write_over.ensures.written last_clean;
      answers = c.answer_safely-2.ensures.bytes;
    }

pub returns-in-Ok-clause-any_moment : goal.returns-in-Ok-clause-any_moment
returns-in-Ok-clause-any_moment g c clean only =
    let F = g.F.SlabFile in
    let s = c.args.shape in
    let blocks = is_among c.args.blocks.now in
    let going = is_among c.args.going.now in
    let batch = c.args.batch.now in
    let old = c.args.file.now in
    let mid = c.answer_safely.new.file in
    let last = c.write_over.new.file in
    let new = c.answer_safely-2.new.file in
    let last_clean : IsTrue (F.is_clean last) = sym c.answer_safely-2.ensures.clean ∙ clean in
    let Q : List ℕ → Type 0 = IsRewrittenInPart s blocks going batch (F.seen old) in
    let mid_clean : IsTrue (F.is_clean mid) = sym c.write_over.ensures.clean ∙ last_clean in
    let silenced : IsSilenced s blocks (F.seen old) (F.seen mid) = silenced_by s c.args.blocks.now (F.seen old) (F.seen mid) c.answer_safely.ensures.bytes (c.in_default.ensures.told mid_clean) in
    let first = leaves_only_weaker F.moment F.left_since old mid (ChangesOnly s nothing nothing blocks (F.seen old)) Q (λ b changes. inl changes) (c.answer_safely.ensures.any_moment only) in
    let second = leaves_only_weaker F.moment F.left_since mid last (IsMidwayOver s going batch (F.seen mid)) Q
    (λ b at. inr (inl (record { mid = F.seen mid; silenced = silenced; midway = at })))
    (c.write_over.ensures.any_moment last_clean c.in_default.ensures.safe) in
    let both = leaves_both F.moment F.left_since F.may_leave old mid last Q first second in
    leaves_both F.moment F.left_since F.may_leave old last new Q both
    (leaves_only_weaker F.moment F.left_since last new (ChangesOnly s nothing nothing blocks (F.seen last)) Q
    (λ b changes. inr (inr (record { mid = F.seen mid; silenced = silenced; last = F.seen last; written = c.in_ok-write_over.ensures.written last_clean; answers = changes })))
    (c.answer_safely-2.ensures.any_moment c.in_ok-write_over.ensures.safe))

pub returns-in-Err-answer_safely-clause-any_moment : goal.returns-in-Err-answer_safely-clause-any_moment
returns-in-Err-answer_safely-clause-any_moment g c clean only =
    let F = g.F.SlabFile in
    let s = c.args.shape in
    let blocks = is_among c.args.blocks.now in
    let going = is_among c.args.going.now in
    let batch = c.args.batch.now in
    let old = c.args.file.now in
    let mid = c.answer_safely.new.file in
    let last = c.write_over.new.file in
    let new = c.answer_safely-2.new.file in
    let last_clean : IsTrue (F.is_clean last) = sym c.answer_safely-2.ensures.clean ∙ clean in
    let Q : List ℕ → Type 0 = IsRewrittenInPart s blocks going batch (F.seen old) in
    let mid_clean : IsTrue (F.is_clean mid) = sym c.write_over.ensures.clean ∙ last_clean in
    let silenced : IsSilenced s blocks (F.seen old) (F.seen mid) = silenced_by s c.args.blocks.now (F.seen old) (F.seen mid) c.answer_safely.ensures.bytes (c.in_default.ensures.told mid_clean) in
    let first = leaves_only_weaker F.moment F.left_since old mid (ChangesOnly s nothing nothing blocks (F.seen old)) Q (λ b changes. inl changes) (c.answer_safely.ensures.any_moment only) in
    let second = leaves_only_weaker F.moment F.left_since mid last (IsMidwayOver s going batch (F.seen mid)) Q
    (λ b at. inr (inl (record { mid = F.seen mid; silenced = silenced; midway = at })))
    (c.write_over.ensures.any_moment last_clean c.in_default.ensures.safe) in
    let both = leaves_both F.moment F.left_since F.may_leave old mid last Q first second in
    leaves_both F.moment F.left_since F.may_leave old last new Q both
    (leaves_only_weaker F.moment F.left_since last new (ChangesOnly s nothing nothing blocks (F.seen last)) Q
    (λ b changes. inr (inr (record { mid = F.seen mid; silenced = silenced; last = F.seen last; written = c.in_ok-write_over.ensures.written last_clean; answers = changes })))
    (c.answer_safely-2.ensures.any_moment c.in_ok-write_over.ensures.safe))
