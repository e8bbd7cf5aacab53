use Rattle.std.proofs.Common.{ℕ, List}
use Rattle.slab_file.proofs.lemmas.Moments.{leaves_more}
use Rattle.slab_node.specs.Left.{nothing}
use Rattle.slab_node.specs.Changes.{ChangesOnly, is_among}
use Rattle.slab_node.proofs.lemmas.Batching.{at_end}
use Rattle.slab_node.proofs.renewing.answer_safely.Goals as goal

pub returns-clause-any_moment : goal.returns-clause-any_moment
returns-clause-any_moment g c only =
    let F = g.F.SlabFile in
    let old = c.args.file.now in
    let mid = c.put_answers.new.file in
    let P : List ℕ → Type 0 = ChangesOnly c.args.shape nothing nothing (is_among c.args.blocks.now) (F.seen old) in
    let so_far = c.put_answers.ensures.any_moment only in
    let each = at_end F.moment F.left_since F.may_leave old mid P so_far (g.met.F.SlabFile.counts_now mid) in
    leaves_more F.moment F.left_since F.may_leave old mid c.sync.new.self P so_far c.sync.ensures.time (λ b may. each b (c.sync.ensures.crash b may))
