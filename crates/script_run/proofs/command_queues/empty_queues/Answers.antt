use Rattle.std.proofs.Common.{◌≡◌, [], replicate, ap, ◌∙◌, arith}
use Rattle.script_run.proofs.command_queues.empty_queues.Goals as goal

pub returns : goal.returns
returns c =
    let high = c.loop-test.false in
    let low = c.loop.auto.counter-end in
    let end : c.loop.counter ≡ 1001 = omega arith in
    c.loop.invariant ∙ ap (λ n. replicate n []) end
