use Rattle.std.proofs.Common.{List, ℕ, [], ◌∷◌, ◌++◌, map, sym, ap, ◌∙◌, append_assoc}
use Rattle.text_lines.specs.Lines.{parts_of}
use Rattle.run_teller.specs.Short.{short_line}
use Rattle.run_teller.proofs.short.short_lines.Goals as goal

pub loop-line-preserved : goal.loop-line-preserved
loop-line-preserved c =
    let old = c.loop-line.lines.items in
    let after = map short_line (parts_of c.in-Some.after.now) in
    ap (λ (x : List (List ℕ)). x ++ after) c.in_ok-push.ensures.items
    ∙ append_assoc old (c.in_ok-short_line.field-0 ∷ []) after
    ∙ ap (λ (x : List ℕ). old ++ x ∷ after) c.in_ok-short_line.ensures
    ∙ ap (λ (x : List (List ℕ)). old ++ map short_line x) (sym c.in-Some.ensures.parts)
    ∙ c.loop-line.invariant
