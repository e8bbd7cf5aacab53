use Rattle.std.proofs.Common.{◌≡◌}
use Rattle.script_text.specs.Replays.{liar_line}
use Rattle.script_text.specs.declared.liars.Declared.TheVariants.{Client}
use Rattle.script_text.proofs.Printed.{written}
use Rattle.script_text.proofs.liars.add_clients.Given as goal

abbrev pub invariant-loop-client : goal.invariant-loop-client
invariant-loop-client l = l.text ≡ written (λ k. liar_line (Client k)) l.fn.text l.client l.liars.clients
