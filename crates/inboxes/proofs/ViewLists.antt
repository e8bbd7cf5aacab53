-- Lists of views of which one changes or to which one comes.
use Rattle.std.proofs.Common.{◌≡◌, ◌≢◌, ℕ, zero, suc, inl, inr, ◌⊎◌, List, [], ◌∷◌, ◌++◌, length, set, refl, sym, ap, subst, ◌∙◌}
use mathlib.Core.Option.{some, some-injective, some-ne-none}
use lib.ListN.{get_elem?}
use Rattle.atomic_table.proofs.Lists.{at_set}

module _ {A : Type 0} where
  pub one_at : (v u : A) (views : List A) (id : ℕ) → views ≡ v ∷ [] → get_elem? views id ≡ some u → (id ≡ 0) × (v ≡ u)
  one_at v u [] id is at = absurd (cc)
  one_at v u (x ∷ xs) zero is at =
      (refl, some-injective v u (ap (λ l. get_elem? l 0) (sym is) ∙ at))
  one_at v u (x ∷ xs) (suc id) is at =
      absurd (some-ne-none u (sym (ap (λ l. get_elem? l (suc id)) (sym is) ∙ at)))

  pub set_one : (v w : A) (views : List A) (id : ℕ) → views ≡ v ∷ [] → id ≡ 0 → set views id w ≡ w ∷ []
  set_one v w views id is zeroth = ap (λ l. set l id w) is ∙ ap (λ i. set (v ∷ []) i w) zeroth

  pub at_end : (l : List A) (a b : A) (j : ℕ) → get_elem? (l ++ a ∷ []) j ≡ some b → (get_elem? l j ≡ some b) ⊎ ((j ≡ length l) × (a ≡ b))
  at_end [] a b zero e = inr (refl, some-injective a b e)
  at_end [] a b (suc j) e = absurd (some-ne-none b (sym e))
  at_end (x ∷ xs) a b zero e = inl e
  at_end (x ∷ xs) a b (suc j) e =
      elim (at_end xs a b j e) [ inl there ↦ inl there | inr last ↦ inr (ap suc last.0, last.1) ]

  pub set_of_set : (P : ℕ → A → Type 0) (l : List A) (i : ℕ) (w : A) → P i w → ((j : ℕ) (u : A) → j ≢ i → get_elem? l j ≡ some u → P j u) → (j : ℕ) (u : A) → get_elem? (set l i w) j ≡ some u → P j u
  set_of_set P l i w here others j u e =
      elim (at_set l i j w u e) [
        | inl is ↦ subst (λ (x : ℕ × A). P x.0 x.1) (λ k. (sym is.0 k, is.1 k)) here
        | inr there ↦ others j u there.0 there.1
      ]
