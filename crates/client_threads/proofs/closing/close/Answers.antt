use Rattle.std.proofs.Common.{◌≡◌, ℕ, ◌<◌, List, All, map, sym, ap, subst, ◌∙◌}
use Rattle.event_clock.specs.declared.rule.Share.{Share}
use Rattle.event_clock.specs.Passes.{Holder, share_of}
use Rattle.event_clock.specs.Views.{IsDrawnOnce}
use Rattle.locked_nodes.specs.Cells.{CellView}
use Rattle.plan_words.specs.declared.plan.Plan.{Plan}
use Rattle.phase_threads.specs.Standing.{AreInside}
use Rattle.client_threads.specs.Running.{desks_of, plan_of}
use Rattle.client_threads.proofs.Together.{together, all_tick, drawn_once, full_share}
use Rattle.client_threads.proofs.closing.close.Goals as goal

pub finish_cells-requires : goal.finish_cells-requires
finish_cells-requires c =
    let cells = c.args.run.cells.items in
    subst (λ (n : ℕ). All (λ (x : CellView). x.charter.number < n) cells) (sym c.n.ensures.is) (subst (λ (p : Plan). AreInside p.config cells) c.requires.plan c.requires.opened.inside)

pub close-drawn-requires-clause-own : goal.close-drawn-requires-clause-own
close-drawn-requires-clause-own c =
    let run = c.args.run in
    let desks = desks_of run.clients.items in
    let all = together run.cells.items desks run.keeper c.new-passes.result c.finish_cells.new.passes c.finish_desks.new.passes c.push.new.self
    c.new-passes.ensures c.in_ok-nodes.ensures.passes c.in_ok-desks.ensures.passes c.in_ok-push.ensures.ok in
    subst (All (λ (p : Holder). p.clock ≡ run.clock)) (sym all)
    (all_tick (plan_of run).config run.clock run.cells.items desks run.keeper c.requires.opened.cells c.in_ok-nodes.ensures.kept c.requires.opened.desks c.requires.opened.keeper.0)

pub returns-clause-drawn : goal.returns-clause-drawn
returns-clause-drawn c =
    let run = c.args.run in
    let desks = desks_of run.clients.items in
    let all = together run.cells.items desks run.keeper c.new-passes.result c.finish_cells.new.passes c.finish_desks.new.passes c.push.new.self
    c.new-passes.ensures c.in_ok-nodes.ensures.passes c.in_ok-desks.ensures.passes c.in_ok-push.ensures.ok in
    let count = c.close-drawn.result.count in
    drawn_once count run.cells.items desks run.keeper c.requires.opened.keeper.1 (subst (λ (l : List Share). IsDrawnOnce count l) (c.close-drawn.ensures.shares ∙ ap (map share_of) all) c.close-drawn.ensures.once)

pub returns-clause-full : goal.returns-clause-full
returns-clause-full c is = full_share c.close-drawn.result c.push.new.self c.close-drawn.ensures.shares (c.is_one_full-full.ensures is)
