use Rattle.std.proofs.Common.{sym, ◌∙◌, arith, IsTrue}
use Rattle.slab_file.proofs.lemmas.Moments.{leaves_both, leaves_more}
use Rattle.slab_making.specs.Made.{BeginsWithZero}
use Rattle.slab_making.proofs.Writes.{begins, at_end, zero_follows}
use Rattle.slab_making.proofs.making.lay_out.Goals as goal

pub returns-in_err-sync-clause-any_moment : goal.returns-in_err-sync-clause-any_moment
returns-in_err-sync-clause-any_moment g c clean each =
    let F = g.F.SlabFile in
    let old = c.args.file.now in
    let mid = c.lengthen.new.self in
    let last = c.put_blank.new.file in
    let mid_clean : IsTrue (F.is_clean mid) = sym c.put_blank.ensures.clean ∙ sym c.sync.ensures.clean ∙ clean in
    let each_mid = zero_follows c.slab_len.result 0 (F.may_leave old) (F.may_leave mid) (omega (arith, c.slab_len.ensures)) each (c.lengthen.ensures.crash mid_clean) in
    let first = leaves_more F.moment F.left_since F.may_leave old old mid BeginsWithZero
    (begins F.moment F.left_since F.may_leave old BeginsWithZero (g.met.F.SlabFile.only_now old) each) c.lengthen.ensures.time each_mid in
    let second = leaves_both F.moment F.left_since F.may_leave old mid last BeginsWithZero first (c.put_blank.ensures.any_moment each_mid) in
    let each_last = at_end F.moment F.left_since F.may_leave old last BeginsWithZero second (g.met.F.SlabFile.counts_now last) in
    leaves_more F.moment F.left_since F.may_leave old last c.sync.new.self BeginsWithZero second c.sync.ensures.time (λ b may. each_last b (c.sync.ensures.crash b may))

pub returns-clause-any_moment : goal.returns-clause-any_moment
returns-clause-any_moment g c clean each =
    let F = g.F.SlabFile in
    let old = c.args.file.now in
    let mid = c.lengthen.new.self in
    let last = c.put_blank.new.file in
    let mid_clean : IsTrue (F.is_clean mid) = sym c.put_blank.ensures.clean ∙ sym c.sync.ensures.clean ∙ clean in
    let each_mid = zero_follows c.slab_len.result 0 (F.may_leave old) (F.may_leave mid) (omega (arith, c.slab_len.ensures)) each (c.lengthen.ensures.crash mid_clean) in
    let first = leaves_more F.moment F.left_since F.may_leave old old mid BeginsWithZero
    (begins F.moment F.left_since F.may_leave old BeginsWithZero (g.met.F.SlabFile.only_now old) each) c.lengthen.ensures.time each_mid in
    let second = leaves_both F.moment F.left_since F.may_leave old mid last BeginsWithZero first (c.put_blank.ensures.any_moment each_mid) in
    let each_last = at_end F.moment F.left_since F.may_leave old last BeginsWithZero second (g.met.F.SlabFile.counts_now last) in
    leaves_more F.moment F.left_since F.may_leave old last c.sync.new.self BeginsWithZero second c.sync.ensures.time (λ b may. each_last b (c.sync.ensures.crash b may))
