-- Histories in two parts, and what their order says of each.
use Rattle.std.proofs.Common.{◌≡◌, ℕ, suc, ◌+◌, ◌<◌, List, [], ◌∷◌, ◌++◌, length, get_or, sym, ap, ◌∙◌, inl, inr, arith, length-append}
use Rattle.std.specs.declared.option.Option.TheVariants.{Some}
use Rattle.std.specs.List.{Contains}
use Rattle.std.proofs.lemmas.List.{get_or_append_left, get_or-append-add}
use Rattle.protocol.specs.History.{Entry, InTime}
use Rattle.lists.proofs.lemmas.Members.{Contains-none, Contains-cons_cases}

-- a list in two parts, with an element between them
pub record Split {X : Type 0} (xs : List X) (x : X) : Type 0 where
  pub front : List X
  pub back : List X
  pub is : xs ≡ front ++ x ∷ back

pub split : {X : Type 0} (x : X) (xs : List X) → Contains xs x → Split xs x
split x [] h = absurd (Contains-none x h)
split {X} x (y ∷ ys) h =
    let rest = split x ys in
    elim (Contains-cons_cases x y ys h) [
      | inl e ↦ record { front = []; back = ys; is = ap (λ (z : X). z ∷ ys) (sym e) }
      | inr r ↦ (let p = rest r in record { front = y ∷ p.front; back = p.back; is = ap (λ (l : List X). y ∷ l) p.is })
    ]

module _ (front back : List Entry) (e : Entry) (in_time : InTime (front ++ e ∷ back)) where
  abbrev all : List Entry
  all = front ++ e ∷ back

  long : length all ≡ length front + suc (length back)
  long = length-append front (e ∷ back)

  here : (d : Entry) → get_or all (length front) d ≡ e
  here d = ap (λ n. get_or all n d) (omega arith) ∙ get_or-append-add front (e ∷ back) 0 d

  -- what began after it had ended doesn't stand before it
  pub none_late_before : (f : Entry) → Contains front f → f.block ≡ e.block → (end start : ℕ) → e.end ≡ Some end → f.start ≡ Some start → end < start → ⊥
  none_late_before f c block end start ended begun less =
      let there : get_or all c.0 f ≡ f = get_or_append_left front (e ∷ back) f c.0 c.1 ∙ c.2 in
      let order = in_time (length front) c.0 f (omega (arith, long)) (omega (arith, long, c.1))
      (ap (λ (x : Entry). x.block) (here f) ∙ sym block ∙ ap (λ (x : Entry). x.block) (sym there)) end start
      (ap (λ (x : Entry). x.end) (here f) ∙ ended) (ap (λ (x : Entry). x.start) there ∙ begun) less in
      omega (arith, order, c.1)

  -- what had ended before it began doesn't stand after it
  pub none_early_behind : (f : Entry) → Contains back f → f.block ≡ e.block → (end start : ℕ) → f.end ≡ Some end → e.start ≡ Some start → end < start → ⊥
  none_early_behind f c block end start ended begun less =
      let at = length front + suc c.0 in
      let there : get_or all at f ≡ f = get_or-append-add front (e ∷ back) (suc c.0) f ∙ c.2 in
      let order = in_time at (length front) f (omega (arith, long, c.1)) (omega (arith, long))
      (ap (λ (x : Entry). x.block) there ∙ block ∙ ap (λ (x : Entry). x.block) (sym (here f))) end start
      (ap (λ (x : Entry). x.end) there ∙ ended) (ap (λ (x : Entry). x.start) (here f) ∙ begun) less in
      omega (arith, order)
