use Rattle.std.proofs.Common.{◌⊎◌, inl, inr, ℕ, List}
use Rattle.sqlite_disk.specs.Disk.{Only}
use Rattle.slab_file.proofs.lemmas.Moments.{leaves_more, leaves_both}
use Rattle.slot_disk.proofs.lemmas.Moments.{leaves_only_weaker}
use Rattle.slab_node.specs.Left.{nothing}
use Rattle.slab_node.specs.Changes.{ChangesOnly}
use Rattle.slab_node.specs.Batches.{is_in}
use Rattle.slab_node.proofs.lemmas.Batching.{begins, at_end}
use Rattle.slab_node.proofs.batch.mark_batch.Goals as goal

pub returns-in_err-sync-clause-any_moment : goal.returns-in_err-sync-clause-any_moment
returns-in_err-sync-clause-any_moment g c =
    let F = g.F.SlabFile in
    let old = c.args.file.now in
    let P : List ℕ → Type 0 = λ b. F.may_leave old b ⊎ ChangesOnly c.args.shape nothing (is_in c.args.batch.now) nothing (F.seen old) b in
    let before : (b : List ℕ) → F.may_leave old b → P b = λ b may. inl may in
    let after : (b : List ℕ) → ChangesOnly c.args.shape nothing (is_in c.args.batch.now) nothing (F.seen old) b → P b = λ b agrees. inr agrees in
    leaves_more F.moment F.left_since F.may_leave old old c.sync.new.self P (begins F.moment F.left_since F.may_leave old P (g.met.F.SlabFile.only_now old) before) c.sync.ensures.time
    (λ b may. before b (c.sync.ensures.crash b may))

pub returns-in_err-put_marks-clause-any_moment : goal.returns-in_err-put_marks-clause-any_moment
returns-in_err-put_marks-clause-any_moment g c =
    let F = g.F.SlabFile in
    let old = c.args.file.now in
    let P : List ℕ → Type 0 = λ b. F.may_leave old b ⊎ ChangesOnly c.args.shape nothing (is_in c.args.batch.now) nothing (F.seen old) b in
    let before : (b : List ℕ) → F.may_leave old b → P b = λ b may. inl may in
    let after : (b : List ℕ) → ChangesOnly c.args.shape nothing (is_in c.args.batch.now) nothing (F.seen old) b → P b = λ b agrees. inr agrees in
    let mid = c.sync.new.self in
    let marks : List ℕ → Type 0 = ChangesOnly c.args.shape nothing (is_in c.args.batch.now) nothing (F.seen mid) in
    let only : Only (F.seen mid) (F.may_leave mid) = rw (c.sync.ensures.bytes) c.in_ok-sync.ensures.durable in
    let first =
    leaves_more F.moment F.left_since F.may_leave old old mid P (begins F.moment F.left_since F.may_leave old P (g.met.F.SlabFile.only_now old) before) c.sync.ensures.time
    (λ b may. before b (c.sync.ensures.crash b may)) in
    leaves_both F.moment F.left_since F.may_leave old mid c.put_marks.new.file P first
    (leaves_only_weaker F.moment F.left_since mid c.put_marks.new.file marks P (λ b agrees. after b (rw (← c.sync.ensures.bytes) agrees)) (c.put_marks.ensures.any_moment only))

pub returns-clause-any_moment : goal.returns-clause-any_moment
returns-clause-any_moment g c =
    let F = g.F.SlabFile in
    let old = c.args.file.now in
    let P : List ℕ → Type 0 = λ b. F.may_leave old b ⊎ ChangesOnly c.args.shape nothing (is_in c.args.batch.now) nothing (F.seen old) b in
    let before : (b : List ℕ) → F.may_leave old b → P b = λ b may. inl may in
    let after : (b : List ℕ) → ChangesOnly c.args.shape nothing (is_in c.args.batch.now) nothing (F.seen old) b → P b = λ b agrees. inr agrees in
    let mid = c.sync.new.self in
    let marks : List ℕ → Type 0 = ChangesOnly c.args.shape nothing (is_in c.args.batch.now) nothing (F.seen mid) in
    let only : Only (F.seen mid) (F.may_leave mid) = rw (c.sync.ensures.bytes) c.in_ok-sync.ensures.durable in
    let first =
    leaves_more F.moment F.left_since F.may_leave old old mid P (begins F.moment F.left_since F.may_leave old P (g.met.F.SlabFile.only_now old) before) c.sync.ensures.time
    (λ b may. before b (c.sync.ensures.crash b may)) in
    let second =
    leaves_both F.moment F.left_since F.may_leave old mid c.put_marks.new.file P first
    (leaves_only_weaker F.moment F.left_since mid c.put_marks.new.file marks P (λ b agrees. after b (rw (← c.sync.ensures.bytes) agrees)) (c.put_marks.ensures.any_moment only)) in
    let each = at_end F.moment F.left_since F.may_leave old c.put_marks.new.file P second (g.met.F.SlabFile.counts_now c.put_marks.new.file) in
    leaves_more F.moment F.left_since F.may_leave old c.put_marks.new.file c.sync-2.new.self P second c.sync-2.ensures.time (λ b may. each b (c.sync-2.ensures.crash b may))
