use Rattle.std.proofs.Common.{◌≡◌, ◌<◌, ◌∷◌, [], Some, length, ap, ◌∙◌, arith, length-append}
use Rattle.std.proofs.lemmas.List.Elements.{All-pop}
use Rattle.locked_nodes.specs.Cells.{new_cell}
use Rattle.plan_followed.specs.Asked.{nature, crash_after}
use Rattle.client_threads.specs.Opened.{IsUnusedPass, IsNewCell, shards_of}
use Rattle.client_threads.proofs.Newcomers.{one_new, next_new}
use Rattle.client_threads.proofs.opening.open_node.Goals as goal

pub unreachable-requires : goal.unreachable-requires
unreachable-requires c =
    let none = ap length c.in_default.ensures.none in
    let left = c.loop-shard.invariant.left in
    let more = c.loop-shard-test.true in
    omega (arith, none, left, more, c.shard_count-count.ensures, c.requires.enough)

pub loop-shard-preserved : goal.loop-shard-preserved
loop-shard-preserved c =
    let inv = c.loop-shard.invariant in
    let plan = c.args.plan.now in
    let shards = c.args.shards in
    let clock = c.args.clock.now in
    let n = c.args.number in
    let s = c.loop-shard.shard in
    let pass = c.in-Some.pass in
    let popped = c.in-Some.ensures.items in
    let few = ap length popped in
    let u = All-pop (IsUnusedPass clock) c.loop-shard.passes c.pop.new.self (Some pass) popped inv.unused in
    let cell = c.in_ok-cell.cell in
    let below : s < shards_of plan shards n = omega (arith, c.loop-shard-test.true, c.shard_count-count.ensures) in
    let is : cell ≡ new_cell plan.config n s (shards_of plan shards n) (nature plan.rules n) (crash_after plan.rules n) pass =
    c.in_ok-cell.ensures ∙ ap (λ x. new_cell plan.config n s x c.nature_of-nature.result c.crash_after-crash_after.result pass) c.shard_count-count.ensures
    ∙ ap (λ x. new_cell plan.config n s (shards_of plan shards n) x c.crash_after-crash_after.result pass) c.nature_of-nature.ensures
    ∙ ap (λ x. new_cell plan.config n s (shards_of plan shards n) (nature plan.rules n) x pass) c.crash_after-crash_after.ensures in
    let new : IsNewCell plan shards clock n s cell = record { pass = pass; unused = u.1; below = below; is = is } in
    record {
      cells = one_new plan shards clock n s c.loop-shard.cells.items c.push.new.self.items cell inv.cells c.in_ok-push.ensures.items new;
      unused = u.0;
      left = omega (arith, few, inv.left, length-append c.pop.new.self (pass ∷ []));
    }

pub returns-clause-cells : goal.returns-clause-cells
returns-clause-cells c =
    let inv = c.loop-shard.invariant in
    next_new c.args.plan.now c.args.shards c.args.clock.now c.args.number c.loop-shard.shard c.loop-shard.cells.items (omega (arith, c.shard_count-count.ensures, c.loop-shard-test.false)) inv.cells
