use Rattle.std.proofs.Common.{◌≡◌, ◌<◌, [], ap, ◌∙◌, subst, sym, take, get_or, map, List, ℕ}
use Rattle.std.proofs.lemmas.List.{take_all, take_more}
use Rattle.std.specs.BTreeMap.{insert_entry}
use Rattle.std.specs.Ordering.{nat_cmp}
use Rattle.stamp_order.specs.declared.Stamp.{Stamp}
use Rattle.version_disk.specs.declared.prune.Prune.{Prune}
use Rattle.store_device.specs.Stores.{AreOfDevice}
use Rattle.store_care.specs.Remembered.{prune_of, with_stamps}
use Rattle.store_care.proofs.Latest.{entries_apart, if_ok, of_latest, one_stamp_more}
use Rattle.store_care.proofs.remembered.latest_of.Goals as goal

pub loop-prune-preserved : goal.loop-prune-preserved
loop-prune-preserved c =
    let k = c.loop-prune.prune-index in
    let prunes = c.args.prunes.now in
    let d : Prune = record { block = 0; stamp = record { time = 0; client = 0; verifier = [] } } in
    let p : Prune = get_or prunes k d in
    c.in_ok-insert.ensures.entries
    ∙ ap (λ (es : List (ℕ × Stamp)). insert_entry nat_cmp es p.block p.stamp) c.loop-prune.invariant
    ∙ sym (one_stamp_more [] (take k prunes) p) ∙ ap (with_stamps []) (sym (take_more prunes k d c.loop-prune-test.true))

pub returns-clause-latest : goal.returns-clause-latest
returns-clause-latest c =
    if_ok _ _ c.as_prunes.result (λ found is. is
    ∙ ap (λ (l : List Prune). map prune_of (with_stamps [] l)) (take_all c.loop-prune.prune-index c.args.prunes.now c.loop-prune-test.false))
    (if_ok _ _ c.as_prunes.result (λ found is. is ∙ ap (map prune_of) c.loop-prune.invariant) c.as_prunes.ensures.prunes)

pub returns-clause-apart : goal.returns-clause-apart
returns-clause-apart c =
    if_ok _ _ c.as_prunes.result (λ found is. entries_apart found.items c.loop-prune.stamps.entries is c.as_prunes.ensures.ascending) c.as_prunes.ensures.prunes

pub returns-clause-there : goal.returns-clause-there
returns-clause-there c =
    let all : c.loop-prune.stamps.entries ≡ with_stamps [] c.args.prunes.now =
    c.loop-prune.invariant ∙ ap (with_stamps []) (take_all c.loop-prune.prune-index c.args.prunes.now c.loop-prune-test.false) in
    if_ok _ _ c.as_prunes.result (λ found is d there.
    subst (AreOfDevice d) (sym (is ∙ ap (map prune_of) all)) (of_latest (λ (p : Prune). p.block < d.blocks) c.args.prunes.now there)) c.as_prunes.ensures.prunes
