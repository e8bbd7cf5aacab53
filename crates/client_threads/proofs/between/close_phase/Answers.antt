use Rattle.std.proofs.Common.{ℕ, ◌<◌, ◌++◌, All, List, refl, sym, ◌∙◌, ap, subst}
use Rattle.plan_followed.specs.declared.prunes.BlockStamp.{BlockStamp}
use Rattle.plan_followed.specs.Prunings.{ArePrunings}
use Rattle.plan_words.specs.declared.plan.Plan.{Plan}
use Rattle.phase_threads.specs.Standing.{ArePlanned}
use Rattle.client_threads.specs.Pruned.{AllPruned}
use Rattle.client_threads.specs.Reads.{early_reads, late_reads}
use Rattle.client_threads.specs.declared.state.Run.{Run}
use Rattle.client_threads.proofs.Inside.{early_met, late_met, prunings_met, blocks_met, planned_met, open_pruned}
use Rattle.client_threads.proofs.Phasing.{HasPruned, is_between}
use Rattle.client_threads.proofs.between.close_phase.Goals as goal

pub prunings-requires-clause-early : goal.prunings-requires-clause-early
prunings-requires-clause-early c =
    let run = c.meet_all.new.run in
    let early = early_met c.requires.worked.0 c.args.run run c.requires.worked.1 c.meet_all.ensures.met c.meet_all.ensures.kept.desks in
    subst (All (λ (x : BlockStamp). x.block < c.blocks-blocks.result)) (sym (c.as_slice-2.ensures.value ∙ c.in_ok-given.ensures.early ∙ ap (early_reads run.begun) c.as_slice.ensures.value))
    (subst (λ (n : ℕ). All (λ (x : BlockStamp). x.block < n) (early_reads run.begun run.clients.items)) (ap (λ (p : Plan). p.config.blocks) c.requires.plan ∙ sym c.blocks-blocks.ensures.is) early)

pub prunings-requires-clause-late : goal.prunings-requires-clause-late
prunings-requires-clause-late c =
    let run = c.meet_all.new.run in
    let late = late_met c.requires.worked.0 c.args.run run c.requires.worked.1 c.meet_all.ensures.met c.meet_all.ensures.kept.desks in
    subst (All (λ (x : BlockStamp). x.block < c.blocks-blocks.result)) (sym (c.as_slice-3.ensures.value ∙ c.in_ok-given.ensures.late ∙ ap (late_reads run.begun) c.as_slice.ensures.value))
    (subst (λ (n : ℕ). All (λ (x : BlockStamp). x.block < n) (late_reads run.begun run.clients.items)) (ap (λ (p : Plan). p.config.blocks) c.requires.plan ∙ sym c.blocks-blocks.ensures.is) late)

pub prune_all-requires-clause-planned : goal.prune_all-requires-clause-planned
prune_all-requires-clause-planned c =
    let run = c.meet_all.new.run in
    subst (λ (p : Plan). ArePlanned p run.clock run.cells.items) c.requires.plan (planned_met c.requires.worked.0 c.args.run run c.requires.worked.1 c.meet_all.ensures.met)

pub prune_all-requires-clause-seen : goal.prune_all-requires-clause-seen
prune_all-requires-clause-seen c = λ k d lt. (c.meet_all.ensures.met.cells_seen k d lt).1

pub prune_all-requires-clause-blocks : goal.prune_all-requires-clause-blocks
prune_all-requires-clause-blocks c =
    let run = c.meet_all.new.run in
    let kept = c.meet_all.ensures.kept.desks in
    let are = prunings_met c.requires.worked.0 c.args.run run c.requires.worked.1 c.meet_all.ensures.met kept c.as_slice-2.result.now c.as_slice-3.result.now c.in_ok-prunings.prunings.items
    (c.as_slice-2.ensures.value ∙ c.in_ok-given.ensures.early ∙ ap (early_reads run.begun) c.as_slice.ensures.value) (c.as_slice-3.ensures.value ∙ c.in_ok-given.ensures.late ∙ ap (late_reads run.begun) c.as_slice.ensures.value)
    c.in_ok-prunings.ensures in
    let blocks = blocks_met c.requires.worked.0 c.args.run run c.requires.worked.1 c.meet_all.ensures.met kept c.in_ok-prunings.prunings.items are in
    subst (λ (ps : List BlockStamp). All (λ x. x.block < c.args.plan.now.config.blocks) ps) (sym c.as_slice-4.ensures.value) (subst (λ (p : Plan). All (λ (x : BlockStamp). x.block < p.config.blocks) c.in_ok-prunings.prunings.items) c.requires.plan blocks)

pub meet_all-requires-2 : goal.meet_all-requires-2
meet_all-requires-2 c =
    let run = c.meet_all.new.run in
    let new : Run = record { plan = run.plan; clock = run.clock; cells = c.in_ok-cells.cells; clients = run.clients; keeper = c.prune_all.new.keeper; begun = c.seen-begun.result } in
    open_pruned run new refl refl refl c.in_ok-cells.ensures.keeper c.in_ok-cells.ensures.some c.meet_all.ensures.kept.cells c.meet_all.ensures.«open»

pub returns-clause-closed : goal.returns-clause-closed
returns-clause-closed c none k worked =
    let run = c.meet_all.new.run in
    let met = c.meet_all.ensures.met in
    let ps = c.as_slice-4.result.now in
    let new : Run = record { plan = run.plan; clock = run.clock; cells = c.in_ok-cells.cells; clients = run.clients; keeper = c.prune_all.new.keeper; begun = c.seen-begun.result } in
    let did : HasPruned ps run new = record {
      plan = refl;
      clock = refl;
      clients = refl;
      keeper = c.in_ok-cells.ensures.keeper;
      begun = c.seen-begun.ensures;
      some = c.in_ok-cells.ensures.some;
      all = subst (λ (p : Plan). AllPruned p run.keeper.seen ps run.cells.items c.in_ok-cells.cells.items) (sym c.requires.plan ∙ sym met.plan) (c.in_ok-cells.ensures.all none);
      seen = c.in_ok-cells.ensures.seen;
    } in
    let are = prunings_met k c.args.run run worked met c.meet_all.ensures.kept.desks c.as_slice-2.result.now c.as_slice-3.result.now ps
    (c.as_slice-2.ensures.value ∙ c.in_ok-given.ensures.early ∙ ap (early_reads run.begun) c.as_slice.ensures.value) (c.as_slice-3.ensures.value ∙ c.in_ok-given.ensures.late ∙ ap (late_reads run.begun) c.as_slice.ensures.value)
    (subst (λ (l : List BlockStamp). ArePrunings (c.as_slice-3.result.now ++ c.as_slice-2.result.now) c.as_slice-3.result.now l) (sym c.as_slice-4.ensures.value) c.in_ok-prunings.ensures) in
    is_between c.phases_work.ensures.below c.phases_work.ensures.prunes c.phases_close.ensures.closes k c.args.run run new c.meet_all-2.new.run ps worked met did c.meet_all-2.ensures.met are
    c.meet_all.ensures.kept c.in_ok-cells.ensures.kept c.meet_all-2.ensures.«open»
