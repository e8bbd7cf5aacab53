use Rattle.std.proofs.Common.{◌≤◌, length, sym, ◌∙◌, arith, IsTrue}
use Rattle.std.proofs.lemmas.Result.{on_ok_weaker}
use Rattle.slab_layout.specs.Shapes.{slab_len}
use Rattle.slab_file.proofs.lemmas.Moments.{leaves_both}
use Rattle.slab_making.specs.Made.{BeginsWithZero}
use Rattle.slab_making.proofs.Writes.{at_end, blank_of}
use Rattle.slab_making.proofs.making.put_blank.Goals as goal

pub returns-clause-blank : goal.returns-clause-blank
returns-clause-blank g c =
    on_ok_weaker c.fill-2.result
    (λ filled clean.
    let F = g.F.SlabFile in
    let s = c.args.shape in
    let mid_clean : IsTrue (F.is_clean c.fill.new.file) = sym c.fill-2.ensures.clean ∙ clean in
    let long : slab_len s ≤ length (F.seen c.fill.new.file) = omega (arith, c.requires.long (sym c.fill.ensures.clean ∙ mid_clean), c.fill.ensures.others.no_shorter) in
    blank_of s c.args.answers c.answer_byte.result (F.seen c.fill.new.file) (F.seen c.fill-2.new.file) c.answer_byte.ensures long (c.in_ok-fill.ensures.filled mid_clean) c.fill-2.ensures.others (filled clean))
    c.fill-2.ensures.filled

pub returns-clause-any_moment : goal.returns-clause-any_moment
returns-clause-any_moment g c each =
    let F = g.F.SlabFile in
    let old = c.args.file.now in
    let mid = c.fill.new.file in
    let so_far = c.fill.ensures.any_moment each in
    leaves_both F.moment F.left_since F.may_leave old mid c.fill-2.new.file BeginsWithZero so_far
    (c.fill-2.ensures.any_moment (at_end F.moment F.left_since F.may_leave old mid BeginsWithZero so_far (g.met.F.SlabFile.counts_now mid)))
