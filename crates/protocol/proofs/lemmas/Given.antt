-- The greatest stamp that a completed read of a block gave.
use Rattle.std.proofs.Common.{◌≡◌, ◌⊎◌, ◌↔◌, ℕ, Bool, true, false, cond, List, [], ◌∷◌, Option, refl, sym, ◌∙◌, ap, inl, inr, arith, eqb}
use Rattle.std.specs.declared.option.Option.TheVariants.{None, Some}
use Rattle.std.specs.List.{Contains}
use Rattle.std.proofs.lemmas.Bool.Decides.{nat_tests}
use Rattle.stamp_order.specs.declared.Stamp.{Stamp}
use Rattle.stamp_order.specs.Stamps.{up_to, ◌≼◌}
use Rattle.protocol.specs.Operations.{How, Outcome}
use Rattle.run_words.specs.declared.outcome.Outcome.TheVariants.{Wrote, Spent, Gave, Outvoted}
use Rattle.protocol.specs.World.{Record, stamp_given, given_of, greater_stamp, greatest_given}
use Rattle.protocol.specs.Facts.{HasGave, IsGreatestGiven}
use Rattle.protocol.proofs.lemmas.Order.{≼-refl, ≼-trans, ≼-antisym, not_up_to}
use Rattle.lists.proofs.lemmas.Members.{Contains-head, Contains-none, Contains-rest, Contains-cons_cases}

-- a read of the block that gave the stamp
pub record IsGreatest (rs : List Record) (block : ℕ) (stamp : Stamp) : Type 0 where
  pub read : Record
  pub there : Contains rs read
  pub of_block : read.block ≡ block
  pub value : List ℕ
  pub how : How
  pub rounds : ℕ
  pub gave : read.outcome ≡ Some (Gave stamp value how rounds)

given_is : (o : Option Outcome) (stamp : Stamp) → stamp_given o ≡ Some stamp → (value : List ℕ) × (how : How) × (rounds : ℕ) × (o ≡ Some (Gave stamp value how rounds))
given_is None stamp e = absurd (cc)
given_is (Some (Wrote t)) stamp e = absurd (cc)
given_is (Some Spent) stamp e = absurd (cc)
given_is (Some (Outvoted nodes)) stamp e = absurd (cc)
given_is (Some (Gave t value how rounds)) stamp e = let q : t ≡ stamp = cc in (value, how, rounds, ap (λ (x : Stamp). Some (Gave x value how rounds)) q)

given_there : (block : ℕ) (r : Record) (stamp : Stamp) → given_of block r ≡ Some stamp → (r.block ≡ block) × (stamp_given r.outcome ≡ Some stamp)
given_there block r stamp e = at (eqb r.block block) refl e
  where
    at : (b : Bool) → eqb r.block block ≡ b → cond b (stamp_given r.outcome) None ≡ Some stamp → (r.block ≡ block) × (stamp_given r.outcome ≡ Some stamp)
    at true h f = (grind (arith, nat_tests), f)
    at false h f = absurd (cc)

greater_is : (a b : Option Stamp) (stamp : Stamp) → greater_stamp a b ≡ Some stamp → (a ≡ Some stamp) ⊎ (b ≡ Some stamp)
greater_is None b stamp e = inr e
greater_is (Some x) None stamp e = inl e
greater_is (Some x) (Some y) stamp e = at (up_to x y) e
  where
    at : (b : Bool) → cond b (Some y) (Some x) ≡ Some stamp → (Some x ≡ Some stamp) ⊎ (Some y ≡ Some stamp)
    at true f = inr f
    at false f = inl f

pub greatest_is : (block : ℕ) (rs : List Record) (stamp : Stamp) → greatest_given block rs ≡ Some stamp → IsGreatest rs block stamp
greatest_is block [] stamp e = absurd (cc)
greatest_is block (r ∷ rs) stamp e =
    let rest = greatest_is block rs stamp in
    elim (greater_is (given_of block r) (greatest_given block rs) stamp e) [
      | inl h ↦ (let k = given_there block r stamp h in let g = given_is r.outcome stamp k.1 in
          record { read = r; there = Contains-head r rs; of_block = k.0; value = g.0; how = g.1; rounds = g.2; gave = g.3 })
      | inr h ↦ (let g = rest h in record { read = g.read; there = Contains-rest g.read r rs g.there; of_block = g.of_block; value = g.value; how = g.how; rounds = g.rounds; gave = g.gave })
    ]

-- what the greatest is, a read gave
greatest_gave : (block : ℕ) (rs : List Record) (stamp : Stamp) → greatest_given block rs ≡ Some stamp → HasGave rs block stamp
greatest_gave block [] stamp e = absurd (cc)
greatest_gave block (r ∷ rs) stamp e =
    let rest = greatest_gave block rs stamp in
    elim (greater_is (given_of block r) (greatest_given block rs) stamp e) [ inl h ↦ (r, Contains-head r rs, h) | inr h ↦ (let q = rest h in (q.0, Contains-rest q.0 r rs q.1, q.2)) ]

-- of two the greater is there and is at least each
greater_above : (a b : Option Stamp) (x : Stamp) → (a ≡ Some x) ⊎ (b ≡ Some x) → (t : Stamp) × (greater_stamp a b ≡ Some t) × (x ≼ t)
greater_above None b x (inl e) = absurd (cc)
greater_above None b x (inr e) = (x, e, ≼-refl x)
greater_above (Some y) None x (inl e) = (x, e, ≼-refl x)
greater_above (Some y) None x (inr e) = absurd (cc)
greater_above (Some y) (Some z) x h = at (up_to y z) refl
  where
    at : (b : Bool) → up_to y z ≡ b → (t : Stamp) × (cond b (Some z) (Some y) ≡ Some t) × (x ≼ t)
    at true e = (z, refl, elim h [ inl f ↦ (let q : y ≡ x = cc in rw q at e) | inr f ↦ (let q : z ≡ x = cc in rw q (≼-refl x)) ])
    at false e = (y, refl, elim h [ inl f ↦ (let q : y ≡ x = cc in rw q (≼-refl x)) | inr f ↦ (let q : z ≡ x = cc in rw q at (not_up_to y z e)) ])

greatest_above : (block : ℕ) (rs : List Record) (x : Stamp) → HasGave rs block x → (t : Stamp) × (greatest_given block rs ≡ Some t) × (x ≼ t)
greatest_above block [] x h = absurd (Contains-none h.0 h.1)
greatest_above block (r ∷ rs) x h =
    let rest = greatest_above block rs x in
    elim (Contains-cons_cases h.0 r rs h.1) [
      | inl e ↦ greater_above (given_of block r) (greatest_given block rs) x (inl (ap (given_of block) (sym e) ∙ h.2))
      | inr k ↦ (let q = rest (h.0, k, h.2) in let u = greater_above (given_of block r) (greatest_given block rs) q.0 (inr q.1) in (u.0, u.1, ≼-trans x q.0 u.0 q.2 u.2))
    ]

pub greatest_iff : (rs : List Record) (block : ℕ) (stamp : Stamp) → (greatest_given block rs ≡ Some stamp) ↔ IsGreatestGiven rs block stamp
greatest_iff rs block stamp = (
  (λ e. (greatest_gave block rs stamp e, λ other h. let q = greatest_above block rs other h in let s : q.0 ≡ stamp = (let f = q.1 in cc) in rw s at q.2)),
  (λ h. let q = greatest_above block rs stamp h.0 in q.1 ∙ ap (λ (t : Stamp). Some t) (≼-antisym q.0 stamp (h.1 q.0 (greatest_gave block rs q.0 q.1)) q.2)),
)

pub none_iff : (rs : List Record) (block : ℕ) → (greatest_given block rs ≡ None) ↔ ((stamp : Stamp) → HasGave rs block stamp → ⊥)
none_iff rs block = ((λ e stamp h. let q = greatest_above block rs stamp h in let f = q.1 in absurd (cc)), (λ h. at (greatest_given block rs) refl h))
  where
    at : (o : Option Stamp) → greatest_given block rs ≡ o → ((stamp : Stamp) → HasGave rs block stamp → ⊥) → o ≡ None
    at None e h = refl
    at (Some stamp) e h = absurd (h stamp (greatest_gave block rs stamp e))
