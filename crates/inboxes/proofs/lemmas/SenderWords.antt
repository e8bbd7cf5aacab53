-- What one sender said, among what all said, and what comes before and after a last word.
use Rattle.std.proofs.Common.{◌≡◌, ◌≢◌, ℕ, true, false, true≢false, cond, inl, inr, ◌⊎◌, List, [], ◌∷◌, ◌++◌, map, All, Option, Some, None, refl, sym, ap, subst, ◌∙◌, append-nil}
use Rattle.std.proofs.lemmas.List.{map-append}
use Rattle.std.proofs.lemmas.List.Elements.{All-head, All-tail, filter-append}
use Rattle.std.proofs.lemmas.Bool.Decides.{eqb_tells}
use Rattle.std.specs.Prelude.{nat_eq}
use Rattle.std.specs.List.{filter}
use Rattle.inboxes.specs.Parcels.{words_of, has_ended, IsOrderly, items_of}

pub true_here : (p : ℕ) → nat_eq p p ≡ true
true_here p = elim (eqb_tells p p) [ inl same ↦ same.0 | inr not ↦ absurd (not.1 refl) ]

pub false_here : (q p : ℕ) → q ≢ p → nat_eq q p ≡ false
false_here q p apart = elim (eqb_tells q p) [ inl same ↦ absurd (apart same.1) | inr not ↦ not.0 ]

pub same_or_not : (q p : ℕ) → (q ≡ p) ⊎ (q ≢ p)
same_or_not q p = elim (eqb_tells q p) [ inl same ↦ inl same.1 | inr not ↦ inr not.1 ]

module _ {T : Type 0} where
  pub all_middle : (P : T → Type 0) (xs : List T) (x : T) (ys : List T) → All P (xs ++ x ∷ ys) → P x
  all_middle P [] x ys all = All-head P x ys all
  all_middle P (z ∷ xs) x ys all = all_middle P xs x ys (All-tail P z (xs ++ x ∷ ys) all)

  no_more : (xs ys : List T) → xs ++ ys ≡ [] → ys ≡ []
  no_more [] ys is = is
  no_more (x ∷ xs) ys is = absurd (cc)

  none_front : (xs ys : List T) → xs ++ ys ≡ [] → xs ≡ []
  none_front [] ys is = refl
  none_front (x ∷ xs) ys is = absurd (cc)

  not_none : (xs : List T) (y : T) (ys : List T) → xs ++ y ∷ ys ≡ [] → ⊥
  not_none [] y ys is = cc
  not_none (x ∷ xs) y ys is = cc

module _ {T : Type 0} where
  pub words_append : (p : ℕ) (xs ys : List (ℕ × Option T)) → words_of p (xs ++ ys) ≡ words_of p xs ++ words_of p ys
  words_append p xs ys =
      ap (map (λ (h : ℕ × Option T). h.1)) (filter-append (λ (h : ℕ × Option T). nat_eq h.0 p) xs ys) ∙ map-append (λ (h : ℕ × Option T). h.1) (filter (λ h. nat_eq h.0 p) xs) (filter (λ h. nat_eq h.0 p) ys)

  words_here : (p : ℕ) (w : Option T) (log : List (ℕ × Option T)) → words_of p ((p, w) ∷ log) ≡ w ∷ words_of p log
  words_here p w log =
      ap (λ b. map (λ (h : ℕ × Option T). h.1) (cond b ((p, w) ∷ filter (λ h. nat_eq h.0 p) log) (filter (λ h. nat_eq h.0 p) log))) (true_here p)

  words_apart : (p q : ℕ) (w : Option T) (log : List (ℕ × Option T)) → q ≢ p → words_of p ((q, w) ∷ log) ≡ words_of p log
  words_apart p q w log apart =
      ap (λ b. map (λ (h : ℕ × Option T). h.1) (cond b ((q, w) ∷ filter (λ h. nat_eq h.0 p) log) (filter (λ h. nat_eq h.0 p) log))) (false_here q p apart)

  pub words_push : (p : ℕ) (log : List (ℕ × Option T)) (w : Option T) → words_of p (log ++ (p, w) ∷ []) ≡ words_of p log ++ w ∷ []
  words_push p log w =
      words_append p log ((p, w) ∷ []) ∙ ap (λ l. words_of p log ++ l) (words_here p w [])

  pub words_push_apart : (p q : ℕ) (log : List (ℕ × Option T)) (w : Option T) → q ≢ p → words_of p (log ++ (q, w) ∷ []) ≡ words_of p log
  words_push_apart p q log w apart =
      words_append p log ((q, w) ∷ []) ∙ ap (λ l. words_of p log ++ l) (words_apart p q w [] apart) ∙ append-nil (words_of p log)

  pub orderly_push : (ws : List (Option T)) (w : Option T) → has_ended ws ≡ false → IsOrderly (ws ++ w ∷ [])
  orderly_push [] (Some x) going = tt
  orderly_push [] None going = refl
  orderly_push (Some x ∷ ws) w going = orderly_push ws w going
  orderly_push (None ∷ ws) w going = absurd (true≢false going)

  pub orderly_front : (ws more : List (Option T)) → IsOrderly (ws ++ more) → IsOrderly ws
  orderly_front [] more is = tt
  orderly_front (Some x ∷ ws) more is = orderly_front ws more is
  orderly_front (None ∷ ws) more is = none_front ws more is

  going_before : (ws : List (Option T)) (w : Option T) (more : List (Option T)) → IsOrderly (ws ++ w ∷ more) → has_ended ws ≡ false
  going_before [] w more is = refl
  going_before (Some x ∷ ws) w more is = going_before ws w more is
  going_before (None ∷ ws) w more is = absurd (not_none ws w more is)

  -- who says something has said no last word before
  pub going_at : (p : ℕ) (xs : List (ℕ × Option T)) (w : Option T) (ys : List (ℕ × Option T)) → IsOrderly (words_of p (xs ++ (p, w) ∷ ys)) → has_ended (words_of p xs) ≡ false
  going_at p xs w ys is =
      let split = words_append p xs ((p, w) ∷ ys) ∙ ap (λ l. words_of p xs ++ l) (words_here p w ys) in
      going_before (words_of p xs) w (words_of p ys) (subst IsOrderly split is)

  pub ended_whole : (ws more : List (Option T)) → IsOrderly (ws ++ more) → has_ended ws ≡ true → more ≡ []
  ended_whole [] more is ended = absurd (true≢false (sym ended))
  ended_whole (Some x ∷ ws) more is ended = ended_whole ws more is ended
  ended_whole (None ∷ ws) more is ended = no_more ws more is

  pub going_push : (ws : List (Option T)) (x : T) → has_ended ws ≡ false → has_ended (ws ++ Some x ∷ []) ≡ false
  going_push [] x going = refl
  going_push (Some y ∷ ws) x going = going_push ws x going
  going_push (None ∷ ws) x going = going

  pub items_push : (ws : List (Option T)) (x : T) → items_of (ws ++ Some x ∷ []) ≡ items_of ws ++ x ∷ []
  items_push [] x = refl
  items_push (Some y ∷ ws) x = ap (λ l. y ∷ l) (items_push ws x)
  items_push (None ∷ ws) x = items_push ws x

  pub items_last : (ws : List (Option T)) → items_of (ws ++ None ∷ []) ≡ items_of ws
  items_last [] = refl
  items_last (Some y ∷ ws) = ap (λ l. y ∷ l) (items_last ws)
  items_last (None ∷ ws) = items_last ws

  pub going_whole : (ws : List (Option T)) → has_ended ws ≡ false → ws ≡ map Some (items_of ws)
  going_whole [] going = refl
  going_whole (Some y ∷ ws) going = ap (λ l. Some y ∷ l) (going_whole ws going)
  going_whole (None ∷ ws) going = absurd (true≢false going)

  pub last_ends : (xs : List T) → has_ended (map Some xs ++ None ∷ []) ≡ true
  last_ends [] = refl
  last_ends (x ∷ xs) = last_ends xs

  pub items_all : (xs : List T) → items_of (map Some xs ++ None ∷ []) ≡ xs
  items_all [] = refl
  items_all (x ∷ xs) = ap (λ l. x ∷ l) (items_all xs)
