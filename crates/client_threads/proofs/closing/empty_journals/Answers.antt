use Rattle.std.proofs.Common.{[], ◌∷◌, ◌++◌, List, ◌∙◌, ap}
use Rattle.std.proofs.lemmas.List.{replicate-append-replicate}
use Rattle.journals.specs.declared.node.NodeEntry.{NodeEntry}
use Rattle.client_threads.proofs.closing.empty_journals.Goals as goal

pub loop-preserved : goal.loop-preserved
loop-preserved c =
    let n = c.loop.counter in
    c.in_ok-push.ensures.ok ∙ ap (λ (l : List (List NodeEntry)). l ++ c.new.result ∷ []) c.loop.invariant ∙ ap (λ (x : List NodeEntry). Rattle.std.specs.Prelude.replicate n [] ++ x ∷ []) c.new.ensures ∙ replicate-append-replicate n 1 []
