use Rattle.std.proofs.Common.{◌≤◌, length, sym, ◌∙◌, ap, arith}
use Rattle.std.proofs.lemmas.Result.{on_ok_weaker}
use Rattle.slab_layout.specs.Shapes.{slab_len}
use Rattle.slab_node.specs.Left.{nothing}
use Rattle.slab_node.specs.Changes.{ChangesOnly}
use Rattle.slab_node.proofs.lemmas.Batching.{begins, stays_there, comes_there}
use Rattle.slab_node.proofs.lemmas.Changing.{head_is, data_is, changes_torn, changes_follow, writes_on}
use Rattle.slab_node.proofs.batch.put_body.Goals as goal

pub returns-in_err-write_at-clause-bytes : goal.returns-in_err-write_at-clause-bytes
returns-in_err-write_at-clause-bytes g c bodies base its changes =
    let s = c.args.shape in
    let f = c.args.fresh.now in
    let sizes = c.requires.sizes in
    changes_torn s bodies nothing nothing base c.head_at.result (length c.deref.result.now) (g.F.SlabFile.seen c.args.file.now) (g.F.SlabFile.seen c.write_at.new.self) changes
    (head_is s bodies nothing nothing f.slot c.head_at.result (length c.deref.result.now) sizes.slot its c.head_at.ensures.place (ap length c.deref.ensures.value ∙ sizes.head))
    c.write_at.ensures.others

pub returns-clause-bytes : goal.returns-clause-bytes
returns-clause-bytes g c bodies base its changes =
    let s = c.args.shape in
    let f = c.args.fresh.now in
    let sizes = c.requires.sizes in
    let first =
    changes_torn s bodies nothing nothing base c.head_at.result (length c.deref.result.now) (g.F.SlabFile.seen c.args.file.now) (g.F.SlabFile.seen c.write_at.new.self) changes
    (head_is s bodies nothing nothing f.slot c.head_at.result (length c.deref.result.now) sizes.slot its c.head_at.ensures.place (ap length c.deref.ensures.value ∙ sizes.head))
    c.write_at.ensures.others in
    changes_torn s bodies nothing nothing base c.data_at.result (length c.deref-2.result.now) (g.F.SlabFile.seen c.write_at.new.self) (g.F.SlabFile.seen c.write_at-2.new.self) first
    (data_is s bodies nothing nothing f.slot c.data_at.result (length c.deref-2.result.now) sizes.slot its c.data_at.ensures.place (ap length c.deref-2.ensures.value ∙ sizes.body))
    c.write_at-2.ensures.others

pub returns-in_err-write_at-clause-any_moment : goal.returns-in_err-write_at-clause-any_moment
returns-in_err-write_at-clause-any_moment g c bodies loose base its each =
    let s = c.args.shape in
    let f = c.args.fresh.now in
    let sizes = c.requires.sizes in
    let F = g.F.SlabFile in
    let old = c.args.file.now in
    writes_on s bodies loose nothing F.moment F.left_since F.may_leave base c.head_at.result (length c.deref.result.now) old old c.write_at.new.self
    (begins F.moment F.left_since F.may_leave old (ChangesOnly s bodies loose nothing base) (g.met.F.SlabFile.only_now old) each) each
    (head_is s bodies loose nothing f.slot c.head_at.result (length c.deref.result.now) sizes.slot its c.head_at.ensures.place (ap length c.deref.ensures.value ∙ sizes.head))
    c.write_at.ensures.crash c.write_at.ensures.time

pub returns-clause-any_moment : goal.returns-clause-any_moment
returns-clause-any_moment g c bodies loose base its each =
    let s = c.args.shape in
    let f = c.args.fresh.now in
    let sizes = c.requires.sizes in
    let F = g.F.SlabFile in
    let old = c.args.file.now in
    let mid = c.write_at.new.self in
    let heads = head_is s bodies loose nothing f.slot c.head_at.result (length c.deref.result.now) sizes.slot its c.head_at.ensures.place (ap length c.deref.ensures.value ∙ sizes.head) in
    let first =
    writes_on s bodies loose nothing F.moment F.left_since F.may_leave base c.head_at.result (length c.deref.result.now) old old mid
    (begins F.moment F.left_since F.may_leave old (ChangesOnly s bodies loose nothing base) (g.met.F.SlabFile.only_now old) each) each heads
    c.write_at.ensures.crash c.write_at.ensures.time in
    let then_each = changes_follow s bodies loose nothing base c.head_at.result (length c.deref.result.now) (F.may_leave old) (F.may_leave mid) each heads c.write_at.ensures.crash in
    writes_on s bodies loose nothing F.moment F.left_since F.may_leave base c.data_at.result (length c.deref-2.result.now) old mid c.write_at-2.new.self first then_each
    (data_is s bodies loose nothing f.slot c.data_at.result (length c.deref-2.result.now) sizes.slot its c.data_at.ensures.place (ap length c.deref-2.ensures.value ∙ sizes.body))
    c.write_at-2.ensures.crash c.write_at-2.ensures.time

pub returns-clause-there : goal.returns-clause-there
returns-clause-there g c =
    on_ok_weaker c.write_at-2.result
    (λ written clean.
    let F = g.F.SlabFile in
    let s = c.args.shape in
    let f = c.args.fresh.now in
    let sizes = c.requires.sizes in
    let long : slab_len s ≤ length (F.seen c.args.file.now) = c.requires.long (sym c.write_at.ensures.clean ∙ sym c.write_at-2.ensures.clean ∙ clean) in
    let heads = ap length c.deref.ensures.value ∙ sizes.head in
    let bodies = ap length c.deref-2.ensures.value ∙ sizes.body in
    comes_there s f sizes (F.seen c.args.file.now) (F.seen c.write_at.new.self) (F.seen c.write_at-2.new.self) long
    c.head_at.result c.data_at.result (length c.deref.result.now) (length c.deref-2.result.now) c.head_at.ensures.place c.data_at.ensures.place heads bodies
    c.write_at.ensures.others c.write_at-2.ensures.others
    c.deref.result.now c.deref-2.result.now c.deref.ensures.value c.deref-2.ensures.value
    (c.in_ok-write_at.ensures.written (omega (arith, heads))) (written (omega (arith, bodies, c.requires.some))))
    c.write_at-2.ensures.written

pub returns-clause-others : goal.returns-clause-others
returns-clause-others g c =
    on_ok_weaker c.write_at-2.result
    (λ written other clean slot differs was.
    let F = g.F.SlabFile in
    let s = c.args.shape in
    let f = c.args.fresh.now in
    let sizes = c.requires.sizes in
    let long : slab_len s ≤ length (F.seen c.args.file.now) = c.requires.long (sym c.write_at.ensures.clean ∙ sym c.write_at-2.ensures.clean ∙ clean) in
    let heads = ap length c.deref.ensures.value ∙ sizes.head in
    let bodies = ap length c.deref-2.ensures.value ∙ sizes.body in
    stays_there s f sizes (F.seen c.args.file.now) (F.seen c.write_at.new.self) (F.seen c.write_at-2.new.self) long
    c.head_at.result c.data_at.result (length c.deref.result.now) (length c.deref-2.result.now) c.head_at.ensures.place c.data_at.ensures.place heads bodies
    c.write_at.ensures.others c.write_at-2.ensures.others other slot differs was)
    c.write_at-2.ensures.written
