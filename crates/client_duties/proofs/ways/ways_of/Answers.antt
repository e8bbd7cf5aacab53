use Rattle.std.proofs.Common.{◌∙◌, ℕ, ap, sym, [], ◌∷◌, ◌++◌, List}
use Rattle.client_duties.specs.declared.task.Ways.{Ways}
use Rattle.client_duties.specs.Tasks.{ways_of}
use Rattle.client_duties.proofs.Folding.{one_at}
use Rattle.client_duties.proofs.ways.ways_of.Goals as goal

abbrev pair : ℕ → ℕ → Ways
pair drops holds = record { drops = drops; holds = holds }

pub loop-node-preserved : goal.loop-node-preserved
loop-node-preserved c =
    let f = ways_of c.args.rules.now c.args.client in
    c.in_ok-push.ensures.ok
    ∙ ap (λ (x : ℕ). c.loop-node.ways ++ pair x c.holds_to.result ∷ []) c.drops_to.ensures
    ∙ ap (λ (x : ℕ). c.loop-node.ways ++ pair (f c.loop-node.node).drops x ∷ []) c.holds_to.ensures
    ∙ ap (λ (ws : List Ways). ws ++ f c.loop-node.node ∷ []) c.loop-node.invariant
    ∙ sym (one_at f c.loop-node.node)
