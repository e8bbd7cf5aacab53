-- Lines that are taken one by one from the front.
use Rattle.std.proofs.Common.{◌≡◌, ℕ, ◌+◌, ◌-◌, ◌<◌, ◌≤◌, suc, List, [], ◌∷◌, sym, ap, ◌∙◌, length, get_or, take, drop, arith}
use Rattle.std.proofs.lemmas.List.{drop_more, length-drop, take_all}
use Rattle.event_lines.specs.declared.line.ReplayLine.{ReplayLine}

-- where nothing is left, all were taken
module _ (xs : List ReplayLine) (i : ℕ) (within : i ≤ length xs) (e : drop i xs ≡ []) where
  pub all_counted : i ≡ length xs
  all_counted =
      let long : length (drop i xs) ≡ length xs - i = length-drop i xs in
      let none : length (drop i xs) ≡ 0 = ap length e in
      omega (arith, within, long, none)

  pub all_taken : take i xs ≡ xs
  all_taken = take_all i xs (omega (arith, all_counted))

-- where one is left, it is the next of them
module _ (xs : List ReplayLine) (i : ℕ) (line : ReplayLine) (left : List ReplayLine) (e : drop i xs ≡ line ∷ left) where
  pub next_within : i < length xs
  next_within =
      let long : length (drop i xs) ≡ length xs - i = length-drop i xs in
      let more : length (drop i xs) ≡ suc (length left) = ap length e in
      omega (arith, long, more)

  pub next_is : line ≡ get_or xs i line
  next_is =
      let both : get_or xs i line ∷ drop (i + 1) xs ≡ line ∷ left = sym (drop_more xs i line next_within) ∙ e in
      cc

  pub rest_is : left ≡ drop (i + 1) xs
  rest_is =
      let both : get_or xs i line ∷ drop (i + 1) xs ≡ line ∷ left = sym (drop_more xs i line next_within) ∙ e in
      cc
