use Rattle.std.proofs.Common.{◌≡◌, ◌∷◌, [], ◌++◌, sym, ◌∙◌, ap, subst}
use Rattle.node_core.specs.Seen.{SeenNode}
use Rattle.version_disk.specs.Undone.{undone, LeadTo}
use Rattle.version_disk.proofs.lemmas.Answering.{undone_push, led_front}
use Rattle.version_disk.proofs.batch.take_back.Goals as goal

pub undo-requires : goal.undo-requires
undo-requires c =
    sym (led_front c.loop-last.node c.pop.new.self.items c.in-Some.last (subst (LeadTo c.loop-last.node) c.in-Some.ensures.items c.loop-last.invariant.led)).0

pub loop-last-preserved : goal.loop-last-preserved
loop-last-preserved c =
    let node = c.loop-last.node in
    let rest = c.pop.new.self.items in
    let last = c.in-Some.last in
    let split : c.loop-last.added.items ≡ rest ++ last ∷ [] = c.in-Some.ensures.items in
    record {
      undone = ap (λ (n : SeenNode). undone n rest) c.undo.ensures ∙ sym (undone_push node rest last) ∙ ap (undone node) (sym split) ∙ c.loop-last.invariant.undone;
      led = subst (λ (n : SeenNode). LeadTo n rest) (sym c.undo.ensures) (led_front node rest last (subst (LeadTo node) split c.loop-last.invariant.led)).1;
    }
