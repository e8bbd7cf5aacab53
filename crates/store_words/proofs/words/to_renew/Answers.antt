use Rattle.std.proofs.Common.{◌≡◌, ℕ, List, [], refl, sym, ap, ◌∙◌}
use Rattle.std.specs.Prelude.{string_bytes, slice_index_or}
use Rattle.std.proofs.lemmas.List.{get_or-map}
use Rattle.store_words.proofs.Spelled.{spelled, number_fits, one_text, behind_one, texts_length}
use Rattle.store_words.specs.Words.{texts}
use Rattle.store_words.proofs.words.to_renew.Goals as goal

pub returns-clause-renews : goal.returns-clause-renews
returns-clause-renews c =
    let t = one_text c.args.words.now _ c.node-item.is c.in-len1-up.len_at_least in
    let rest = behind_one c.args.words.now in
    let there = c.if-node-folders.false in
    let folder = c.index-folders-node in
    let at = get_or-map string_bytes rest c.in_ok-node.node folder.result [] there in
    let word : slice_index_or (texts rest) c.in_ok-node.node [] ≡ c.as_str-2.result.now = at ∙ ap string_bytes (sym folder.is) ∙ sym c.as_str-2.ensures.value in (
      c.in_ok-node.node,
      refl,
      record {
        spelled = rw (t, ← c.as_str.ensures.value, spelled _ _ c.in_ok-node.ensures.ok) refl;
        renewed = record {
          there = rw (texts_length rest) there;
          fits = number_fits _ _ c.in_ok-node.ensures.ok;
          named = λ e. c.in_ok-check_place.ensures.named (sym word ∙ e);
        };
      },
    )
