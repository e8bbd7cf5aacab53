use Rattle.std.proofs.Common.{◌≡◌, ℕ, List, length, sym, ◌∙◌, ap, subst, arith, IsTrue}
use Rattle.std.proofs.lemmas.Result.{on_ok_weaker}
use Rattle.sqlite_disk.specs.Disk.{Torn, Only}
use Rattle.slab_file.proofs.lemmas.Moments.{leaves_both}
use Rattle.slot_disk.proofs.lemmas.Moments.{leaves_only_weaker}
use Rattle.slab_layout.specs.declared.shape.Shape.{Shape}
use Rattle.slab_layout.specs.Shapes.{shape_of}
use Rattle.slab_making.specs.Made.{IsBlank, IsWholeOrNone, IsShort, BeginsWithZero}
use Rattle.slab_making.proofs.Writes.{begins, short_has_none, zero_has_none, written_is_whole, part_holds, blank_stays, header_long}
use Rattle.slab_making.proofs.making.make_slab.Goals as goal

zero_of_only : (base : List ℕ) (may : List ℕ → Type 0) → Only base may → BeginsWithZero base → (c : List ℕ) → may c → BeginsWithZero c
zero_of_only base may only is c at = subst BeginsWithZero (sym (only c at)) is

pub returns-in-Err-clause-any_moment : goal.returns-in-Err-clause-any_moment
returns-in-Err-clause-any_moment g c clean each =
    let F = g.F.SlabFile in
    let h = c.args.header.now in
    let old = c.args.file.now in
    let P : List ℕ → Type 0 = IsWholeOrNone h.config h.number h.key c.args.answers in
    begins F.moment F.left_since F.may_leave old P (g.met.F.SlabFile.only_now old) (λ b may. short_has_none h.config h.number h.key c.args.answers b (each b may))

pub returns-in_err-begin-clause-any_moment : goal.returns-in_err-begin-clause-any_moment
returns-in_err-begin-clause-any_moment g c clean each =
    let F = g.F.SlabFile in
    let h = c.args.header.now in
    let old = c.args.file.now in
    let first = c.begin.new.file in
    let P : List ℕ → Type 0 = IsWholeOrNone h.config h.number h.key c.args.answers in
    leaves_only_weaker F.moment F.left_since old first IsShort P (short_has_none h.config h.number h.key c.args.answers) (c.begin.ensures.any_moment clean each)

pub returns-in_err-lay_out-clause-any_moment : goal.returns-in_err-lay_out-clause-any_moment
returns-in_err-lay_out-clause-any_moment g c clean each =
    let F = g.F.SlabFile in
    let h = c.args.header.now in
    let old = c.args.file.now in
    let first = c.begin.new.file in
    let P : List ℕ → Type 0 = IsWholeOrNone h.config h.number h.key c.args.answers in
    let first_clean : IsTrue (F.is_clean first) = c.lay_out.ensures.clean clean in
    let begun = leaves_only_weaker F.moment F.left_since old first IsShort P (short_has_none h.config h.number h.key c.args.answers) (c.begin.ensures.any_moment first_clean each) in
    let zeros = zero_of_only (F.seen first) (F.may_leave first) c.in_ok-begin.ensures.safe (c.in_ok-begin.ensures.zero first_clean) in
    leaves_both F.moment F.left_since F.may_leave old first c.lay_out.new.file P begun
    (leaves_only_weaker F.moment F.left_since first c.lay_out.new.file BeginsWithZero P (zero_has_none h.config h.number h.key c.args.answers) (c.lay_out.ensures.any_moment clean zeros))

pub returns-clause-any_moment : goal.returns-clause-any_moment
returns-clause-any_moment g c clean each =
    let F = g.F.SlabFile in
    let h = c.args.header.now in
    let old = c.args.file.now in
    let first = c.begin.new.file in
    let P : List ℕ → Type 0 = IsWholeOrNone h.config h.number h.key c.args.answers in
    let mid = c.lay_out.new.file in
    let new = c.put_header.new.file in
    let mid_clean : IsTrue (F.is_clean mid) = sym c.put_header.ensures.clean ∙ clean in
    let first_clean : IsTrue (F.is_clean first) = c.lay_out.ensures.clean mid_clean in
    let begun = leaves_only_weaker F.moment F.left_since old first IsShort P (short_has_none h.config h.number h.key c.args.answers) (c.begin.ensures.any_moment first_clean each) in
    let zeros = zero_of_only (F.seen first) (F.may_leave first) c.in_ok-begin.ensures.safe (c.in_ok-begin.ensures.zero first_clean) in
    let laid = leaves_both F.moment F.left_since F.may_leave old first mid P begun
    (leaves_only_weaker F.moment F.left_since first mid BeginsWithZero P (zero_has_none h.config h.number h.key c.args.answers) (c.lay_out.ensures.any_moment mid_clean zeros)) in
    let blank : IsBlank (shape_of h.config) c.args.answers (F.seen mid) = subst (λ (s : Shape). IsBlank s c.args.answers (F.seen mid)) c.of.ensures.is (c.in_ok-lay_out.ensures.blank mid_clean) in
    let long : length c.deref.result.now ≡ 40 = ap length (c.deref.ensures.value ∙ c.in-Ok.ensures) ∙ header_long h.config h.number h.key c.args.answers in
    leaves_both F.moment F.left_since F.may_leave old mid new P laid
    (leaves_only_weaker F.moment F.left_since mid new (Torn 0 (length c.deref.result.now) (F.seen mid)) P
    (λ b torn. written_is_whole h.config h.number h.key c.args.answers (length c.deref.result.now) (F.seen mid) b (omega (arith, long)) blank torn)
    (c.put_header.ensures.any_moment c.in_ok-lay_out.ensures.safe))

pub returns-clause-made : goal.returns-clause-made
returns-clause-made g c =
    on_ok_weaker c.put_header.result
    (λ written clean.
    let F = g.F.SlabFile in
    let h = c.args.header.now in
    let old = c.args.file.now in
    let first = c.begin.new.file in
    let mid = c.lay_out.new.file in
    let new = c.put_header.new.file in
    let mid_clean : IsTrue (F.is_clean mid) = sym c.put_header.ensures.clean ∙ clean in
    let blank : IsBlank (shape_of h.config) c.args.answers (F.seen mid) = subst (λ (s : Shape). IsBlank s c.args.answers (F.seen mid)) c.of.ensures.is (c.in_ok-lay_out.ensures.blank mid_clean) in
    let is = c.deref.ensures.value ∙ c.in-Ok.ensures in
    let long : length c.deref.result.now ≡ 40 = ap length is ∙ header_long h.config h.number h.key c.args.answers in
    record {
      header = part_holds h.config h.number h.key c.args.answers (F.seen new) c.deref.result.now is written;
      blank = blank_stays (shape_of h.config) c.args.answers (length c.deref.result.now) (F.seen mid) (F.seen new) (omega (arith, long)) blank c.put_header.ensures.others;
    })
    c.put_header.ensures.written
