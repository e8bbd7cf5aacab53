use Rattle.std.proofs.Common.{◌≡◌, ℕ, ◌+◌, List, ◌∷◌, length, drop, Option, Some, None, refl, sym, ◌∙◌}
use Rattle.std.specs.Prelude.{MatchOption}
use Rattle.std.specs.Vec.Iter.{into_iter_items}
use Rattle.std.proofs.lemmas.List.{nil_from_length}
use Rattle.std.proofs.lemmas.Iterator.{items_from_collect}
use Rattle.std.proofs.lemmas.Iterator.Adapters.{YieldsList-from_vec}
use Rattle.pasis_shell.proofs.edge.words_of.Goals as goal

-- what is left after the first
left_after : {X : Type 0} (first : Option X) (all rest : List X) (n m : ℕ) → n ≡ length all → m ≡ length rest → MatchOption first ((n ≡ 0) × (m ≡ 0)) (λ x. (all ≡ x ∷ rest) × (m + 1 ≡ n)) → rest ≡ drop 1 all
left_after None all rest n m a b h = rw (nil_from_length rest (sym b ∙ h.1), nil_from_length all (sym a ∙ h.0)) refl
left_after (Some x) all rest n m a b h = rw h.0 refl

pub returns-in-Ok-clause-words : goal.returns-in-Ok-clause-words
returns-in-Ok-clause-words c =
    let rest = c.next-name.new.self in
    let items = items_from_collect c.collect.result c.collect.ensures.ran (YieldsList-from_vec {s = rest} (into_iter_items rest) refl rest.rest.ok.0) in
    let after = left_after c.next-name.result (into_iter_items c.args.arguments) (into_iter_items rest) _ _ c.args.arguments.rest.ok.0 rest.rest.ok.0 c.next-name.ensures.cases in
    rw c.in-Ok.is at items ∙ after
