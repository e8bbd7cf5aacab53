use Rattle.std.proofs.Common.{◌≡◌, ◌<◌, List, filter, refl, sym, ap, subst, ◌∙◌}
use Rattle.std.specs.List.{All}
use Rattle.std.proofs.lemmas.List.Elements.{All-from_recursion, recursion_from_All}
use Rattle.version_disk.specs.declared.prune.Prune.{Prune}
use Rattle.store_device.specs.Stores.{SeenStore}
use Rattle.store_device.specs.Calls.{Leads}
use Rattle.store_device.specs.Seating.{ArePrunesApart}
use Rattle.store_device.proofs.lemmas.Steps.{none_tended}
use Rattle.store_care.specs.Pruning.{is_overfull}
use Rattle.store_care.specs.Remembered.{AreGroupsOf, HasPrunedRemembered, latest, remembered}
use Rattle.store_care.proofs.Latest.{filter_apart, of_filter, remembered_tends}
use Rattle.store_care.proofs.remembered.prune_acknowledged.Goals as goal

pub returns-in_err-latest-clause-tended : goal.returns-in_err-latest-clause-tended
returns-in_err-latest-clause-tended g c =
    let D = g.D.Disk in none_tended D.pending D.seen D.most D.moment D.left_since c.args.store.now c.args.store.now refl

pub overfull_of-requires : goal.overfull_of-requires
overfull_of-requires g c =
    let store = c.args.store.now in
    let there = λ (p : Prune). p.block < store.config.blocks in
    subst (All there) (sym c.deref.ensures.value)
    (All-from_recursion there c.in_ok-latest.latest.items
    (c.in_ok-latest.ensures.there store.config (recursion_from_All there c.acknowledged.result.now c.acknowledged.ensures.there)))

pub returns-in_err-prunes-clause-tended : goal.returns-in_err-prunes-clause-tended
returns-in_err-prunes-clause-tended g c =
    let D = g.D.Disk in none_tended D.pending D.seen D.most D.moment D.left_since c.args.store.now c.overfull_of.new.store c.overfull_of.ensures.same

pub prune_groups-requires-clause-there : goal.prune_groups-requires-clause-there
prune_groups-requires-clause-there g c κs within =
    let store = c.args.store.now in
    let there = λ (p : Prune). p.block < store.config.blocks in
    let test = λ (p : Prune). is_overfull store c.args.most p.block in
    let given = c.deref.result.now in
    let are : c.deref-2.result.now ≡ filter test given = c.deref-2.ensures.value ∙ c.in_ok-prunes.ensures.overfull in
    subst (λ (s : SeenStore _). All (λ (p : Prune). p.block < s.config.blocks) c.deref-2.result.now) (sym c.overfull_of.ensures.same)
    (subst (All there) (sym are)
    (All-from_recursion there (filter test given)
    (of_filter there test given (recursion_from_All there given
    (subst (All there) (sym c.deref.ensures.value)
    (All-from_recursion there c.in_ok-latest.latest.items
    (c.in_ok-latest.ensures.there store.config (recursion_from_All there c.acknowledged.result.now c.acknowledged.ensures.there))))))))

pub prune_groups-requires-clause-apart : goal.prune_groups-requires-clause-apart
prune_groups-requires-clause-apart g c κs within =
    let test = λ (p : Prune). is_overfull c.args.store.now c.args.most p.block in
    subst ArePrunesApart (sym (c.deref-2.ensures.value ∙ c.in_ok-prunes.ensures.overfull))
    (filter_apart test c.deref.result.now (subst ArePrunesApart (sym c.deref.ensures.value) c.in_ok-latest.ensures.apart))

pub returns-clause-pruned : goal.returns-clause-pruned
returns-clause-pruned g c =
    let D = g.D.Disk in
    let store = c.args.store.now in
    let last = c.prune_groups.new.store in
    let made = c.prune_groups.ensures.calls in
    let test = λ (p : Prune). is_overfull store c.args.most p.block in
    let are : c.deref-2.result.now ≡ remembered store c.args.most = c.deref-2.ensures.value ∙ c.in_ok-prunes.ensures.overfull
    ∙ ap (filter test) (c.deref.ensures.value ∙ c.in_ok-latest.ensures.latest ∙ ap latest c.acknowledged.ensures.stamps) in
    record {
      calls = made.0;
      last = last;
      led = subst (λ (s : SeenStore _). Leads D.pending D.seen D.most D.moment D.left_since s made.0 last) c.overfull_of.ensures.same made.1;
      pruned = subst (λ (prunes : List Prune). AreGroupsOf prunes made.0) are made.2;
      forgot = c.forget_acknowledged.ensures;
    }

pub returns-clause-tended : goal.returns-clause-tended
returns-clause-tended g c =
    let D = g.D.Disk in
    remembered_tends D.pending D.seen D.most D.moment D.left_since c.args.most c.args.store.now c.forget_acknowledged.new.self (returns-clause-pruned g c)
