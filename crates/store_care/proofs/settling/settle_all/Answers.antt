use Rattle.std.proofs.Common.{◌≡◌, ◌<◌, ◌≤◌, ◌+◌, ◌*◌, ◌/◌, ◌++◌, sym, subst, ◌∙◌, inl, inr, arith}
use Rattle.store_device.specs.Stores.{SeenStore}
use Rattle.store_care.specs.Settling.{TriesLead}
use Rattle.std.proofs.lemmas.Bool.{cases_lt}
use Rattle.store_care.proofs.Settled.{tries_then}
use Rattle.store_care.proofs.Looks.{on_err}
use Rattle.store_care.proofs.Tried.{on_any, tried_out_before, tried_out_behind}
use Rattle.store_care.proofs.settling.settle_all.Goals as goal

pub loop-group-preserved : goal.loop-group-preserved
loop-group-preserved g c =
    let D = g.D.Disk in
    let inv = c.loop-group.invariant in
    let did = c.in_ok-settle_group.ensures.tries in
    record {
      config = c.in_ok-settle_group.ensures.config ∙ inv.config;
      blocks = inv.blocks;
      ends = inv.ends;
      tries = (
        inv.tries.0 ++ did.0,
        tries_then D.pending D.seen D.most D.moment D.left_since inv.tries.0 did.0 c.args.store.now c.loop-group.store c.settle_group.new.store inv.tries.1 did.1,
        λ block below within. elim (cases_lt block (c.loop-group.group * 64)) [
          | inl before ↦ tried_out_before c.args.store.now inv.tries.0 did.0 block (inv.tries.2 block before within)
          | inr behind ↦ tried_out_behind D.pending D.seen D.most D.moment D.left_since inv.tries.0 did.0 c.args.store.now c.loop-group.store block inv.tries.1 (did.2 block
              (omega (arith, c.min-first.ensures, c.saturating_mul.ensures, behind))
              (omega (arith, c.min-first.ensures, c.min-count.ensures, c.saturating_mul.ensures, c.blocks-blocks.ensures.most, behind, below, within)))
        ],
      );
    }

pub returns-in_err-settle_group-clause-tries : goal.returns-in_err-settle_group-clause-tries
returns-in_err-settle_group-clause-tries g c =
    let D = g.D.Disk in
    let inv = c.loop-group.invariant in
    let did = c.in_err-settle_group.ensures.tries in (
      inv.tries.0 ++ did.0,
      tries_then D.pending D.seen D.most D.moment D.left_since inv.tries.0 did.0 c.args.store.now c.loop-group.store c.settle_group.new.store inv.tries.1 did.1,
      on_err _ c.from_residual.result c.from_residual.ensures.0,
    )

pub returns-clause-tries : goal.returns-clause-tries
returns-clause-tries g c =
    let D = g.D.Disk in
    let inv = c.loop-group.invariant in
    let blocks = c.blocks-blocks.result in
    let ends : c.div_ceil-group-end.result ≡ (blocks + 63) / 64 = inv.ends in
    let all : blocks ≤ c.loop-group.group * 64 = omega (arith, ends, c.loop-group-test.false) in (
      inv.tries.0,
      subst (λ (s : SeenStore _). TriesLead D.pending D.seen D.most D.moment D.left_since c.args.store.now inv.tries.0 s) (sym c.count_unsettled.ensures.same) inv.tries.1,
      on_any _ c.count_unsettled.result
          (λ block below. let within : block < blocks = omega (arith, below, inv.blocks) in inv.tries.2 block (omega (arith, within, all)) within),
    )
