use Rattle.std.proofs.Common.{◌∙◌, ap}
use Rattle.store_device.specs.Stores.{SeenStore}
use Rattle.pasis_store.proofs.Journals.{and_tended, stamps_forgotten}
use Rattle.pasis_store.proofs.upkeep.look_after.Goals as goal

pub returns-in_err-prune_all-clause-tended : goal.returns-in_err-prune_all-clause-tended
returns-in_err-prune_all-clause-tended g c =
    and_tended c.args.store.now c.prune_acknowledged.new.store c.prune_all.new.store c.prune_acknowledged.ensures.tended c.prune_all.ensures.tended

pub returns-clause-tended : goal.returns-clause-tended
returns-clause-tended g c =
    let old = c.args.store.now in
    let first = c.prune_acknowledged.new.store in
    let mid = c.prune_all.new.store in
    let bare = c.forget_acknowledged.new.self in
    let new = c.compact_due.new.store in
    and_tended old first new c.prune_acknowledged.ensures.tended
    (and_tended first mid new c.prune_all.ensures.tended
    (and_tended mid bare new (stamps_forgotten mid bare c.forget_acknowledged.ensures) c.compact_due.ensures.tended))

pub returns-clause-pruned : goal.returns-clause-pruned
returns-clause-pruned g c =
    let mid = c.prune_all.new.store in
    let bare = c.forget_acknowledged.new.self in
    let new = c.compact_due.new.store in (
      c.prune_acknowledged.new.store,
      mid,
      c.in_ok-prune_acknowledged.ensures.pruned,
      c.in_ok-prune_all.ensures.passed,
      and_tended mid bare new (stamps_forgotten mid bare c.forget_acknowledged.ensures) c.compact_due.ensures.tended,
    )

pub returns-clause-config : goal.returns-clause-config
returns-clause-config g c =
    c.compact_due.ensures.config ∙ ap (λ (s : SeenStore _). s.config) c.forget_acknowledged.ensures ∙ c.prune_all.ensures.config ∙ c.prune_acknowledged.ensures.config
