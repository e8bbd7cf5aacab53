use Rattle.std.proofs.Common.{◌≡◌, ℕ, List, ◌∷◌, ◌+◌, ◌++◌, drop, sym, ap, ◌∙◌, append_assoc}
use Rattle.std.specs.List.{flat_map}
use Rattle.std.proofs.lemmas.List.{drop_more}
use Rattle.picture_svg.specs.Shapes.{words_text}
use Rattle.picture_svg.specs.declared.texts.Words.{Words}
use Rattle.picture_svg.proofs.elements.add_texts.Goals as goal

pub loop-one-preserved : goal.loop-one-preserved
loop-one-preserved c =
    let words = c.args.words.now in
    let i = c.loop-one.one-index in
    let one = c.one-item.result in
    let now = c.loop-one.text in
    let rest = flat_map words_text (drop (i + 1) words) in
    let e : drop i words ≡ one ∷ drop (i + 1) words =
    drop_more words i one c.loop-one-test.true ∙ ap (λ (x : Words). x ∷ drop (i + 1) words) (sym c.one-item.is) in
    c.loop-one.invariant ∙ ap (λ (x : List Words). now ++ flat_map words_text x) e
    ∙ sym (ap (λ (t : List ℕ). t ++ rest) c.in_ok-add_words.ensures ∙ append_assoc now (words_text one) rest)
