use Rattle.std.proofs.Common.{◌≡◌, ◌+◌, ◌-◌, ◌*◌, ◌<◌, ◌≤◌, ◌∷◌, ◌++◌, [], List, length, min, refl, sym, ap, subst, ◌∙◌, arith, rules}
use Rattle.std.specs.List.{All, slice_range}
use Rattle.quorum_rules.specs.Limits.{Numbers}
use Rattle.version_disk.specs.declared.prune.Prune.{Prune}
use Rattle.store_device.specs.Calls.Deed.{Prunes}
use Rattle.store_care.proofs.Latest.{all_slice, apart_slice, are_groups, first_more, led_more, none_first}
use Rattle.store_care.proofs.remembered.prune_groups.Goals as goal

pub loop-group-init : goal.loop-group-init
loop-group-init g c = record { config = refl; ends = search rules; gone = ([], refl, none_first c.args.prunes.now) }

pub prune_all-starved-requires-clause-there : goal.prune_all-starved-requires-clause-there
prune_all-starved-requires-clause-there g c κs within =
    let prunes = c.args.prunes.now in
    all_slice (λ (p : Prune). p.block < c.loop-group.store.config.blocks) prunes c.min-first.result (c.min-first.result + c.min.result)
    (omega (arith, c.min-first.ensures, c.min.ensures))
    (subst (λ (n : Numbers). All (λ (p : Prune). p.block < n.blocks) prunes) (sym c.loop-group.invariant.config) c.requires.there)

pub prune_all-starved-requires-clause-apart : goal.prune_all-starved-requires-clause-apart
prune_all-starved-requires-clause-apart g c κs within =
    apart_slice c.args.prunes.now c.min-first.result (c.min-first.result + c.min.result) (omega (arith, c.min-first.ensures, c.min.ensures)) c.requires.apart

pub loop-group-preserved : goal.loop-group-preserved
loop-group-preserved g c =
    let D = g.D.Disk in
    let inv = c.loop-group.invariant in
    let prunes = c.args.prunes.now in
    let group = c.loop-group.group in
    let first = c.min-first.result in
    let end = first + c.min.result in
    let new = c.prune_all-starved.new.self in
    let more : group * 64 < length prunes = omega (arith, inv.ends, c.loop-group-test.true) in
    let at : first ≡ group * 64 = omega (arith, more, c.min-first.ensures, c.saturating_mul.ensures) in
    let ends : end ≡ first + min 64 (length prunes - first) = ap (λ n. first + n) c.min.ensures in
    record {
      config = c.prune_all-starved.ensures.config ∙ inv.config;
      ends = inv.ends;
      gone = (
        inv.gone.0 ++ record { deed = Prunes (slice_range prunes first end); store = new } ∷ [],
        led_more D.pending D.seen D.most D.moment D.left_since c.args.store.now c.loop-group.store new inv.gone.0 (Prunes (slice_range prunes first end))
            inv.gone.1 c.prune_all-starved.ensures.pruned,
        first_more prunes group first end inv.gone.0 new more at ends inv.gone.2,
      );
    }

pub returns-clause-calls : goal.returns-clause-calls
returns-clause-calls g c =
    let inv = c.loop-group.invariant in
    let gone = inv.gone in
    (gone.0, gone.1, are_groups c.args.prunes.now gone.0 c.loop-group.group (omega (arith, inv.ends, c.loop-group-test.false, c.loop-group.auto.group-end)) gone.2)
