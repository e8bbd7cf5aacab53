-- Whether a list of records has a write of a stamp, and its first read.
use Rattle.std.proofs.Common.{◌≡◌, ◌⊎◌, ℕ, ◌<◌, ◌≤◌, Bool, true, false, List, [], ◌∷◌, Option, refl, ap, inl, inr, arith, leb}
use Rattle.std.specs.declared.option.Option.TheVariants.{None, Some}
use Rattle.std.proofs.lemmas.Bool.Decides.{nat_tests, eqb_tells}
use Rattle.stamp_order.specs.declared.Stamp.{Stamp}
use Rattle.stamp_order.specs.Stamps.{same_stamp}
use Rattle.protocol.specs.Operations.{Work, Outcome, How}
use Rattle.protocol.specs.Operations.Work.{Reads, Writes}
use Rattle.run_words.specs.declared.outcome.Outcome.TheVariants.{Wrote, Spent, Gave, Outvoted}
use Rattle.protocol.specs.World.{Record}
use Rattle.protocol.specs.History.{HasRead, HasWrite}
use Rattle.protocol.proofs.lemmas.Order.{same_stamp-≡, same_stamp-refl}
use Rattle.lists.proofs.lemmas.Members.{Contains-head, Contains-none, Contains-rest, Contains-cons_cases}

abbrev Decided : Type 0 → Type 0
Decided P = P ⊎ (P → ⊥)

numbers : (a b : ℕ) → Decided (a ≡ b)
numbers a b = elim (eqb_tells a b) [ inl h ↦ inl h.1 | inr h ↦ inr h.1 ]

stamps_at : (a b : Stamp) (t : Bool) → same_stamp a b ≡ t → Decided (a ≡ b)
stamps_at a b true e = inl (same_stamp-≡ a b e)
stamps_at a b false e = inr (λ q. let k : same_stamp b b ≡ false = rw q at e in let l = same_stamp-refl b in cc)

chosen_stamps : (o : Option Stamp) (t : Stamp) → Decided (o ≡ Some t)
chosen_stamps None t = inr (λ e. cc)
chosen_stamps (Some a) t = elim (stamps_at a t (same_stamp a t) refl) [ inl e ↦ inl (ap Some e) | inr f ↦ inr (λ e. f (cc)) ]

writes_at : (work : Work) → Decided ((value : List ℕ) × (work ≡ Writes value))
writes_at Reads = inr (λ h. let e = h.1 in cc)
writes_at (Writes value) = inl (value, refl)

module _ (block : ℕ) (stamp : Stamp) where
  record IsSuch (r : Record) : Type 0 where
    of_block : r.block ≡ block
    value : List ℕ
    writes : r.work ≡ Writes value
    chose : r.stamp ≡ Some stamp

  such : (r : Record) → Decided (IsSuch r)
  such r = elim (numbers r.block block) [
    | inr n ↦ inr (λ h. n h.of_block)
    | inl e ↦ elim (writes_at r.work) [
      | inr n ↦ inr (λ h. n (h.value, h.writes))
      | inl f ↦ elim (chosen_stamps r.stamp stamp) [ inr n ↦ inr (λ h. n h.chose) | inl g ↦ inl (record { of_block = e; value = f.0; writes = f.1; chose = g }) ]
    ]
  ]

  pub find_write : (rs : List Record) → HasWrite rs block stamp ⊎ (HasWrite rs block stamp → ⊥)
  find_write [] = inr (λ h. Contains-none h.write h.there)
  find_write (r ∷ rs) =
      let rest = find_write rs in
      elim (such r) [
        | inl h ↦ inl (record { write = r; there = Contains-head r rs; of_block = h.of_block; value = h.value; writes = h.writes; chose = h.chose })
        | inr n ↦ elim rest [
          | inl h ↦ inl (record { write = h.write; there = Contains-rest h.write r rs h.there; of_block = h.of_block; value = h.value; writes = h.writes; chose = h.chose })
          | inr m ↦ inr (λ h. elim (Contains-cons_cases h.write r rs h.there) [
            | inl e ↦ n (rw (← e) (record { of_block = h.of_block; value = h.value; writes = h.writes; chose = h.chose }))
            | inr k ↦ m (record { write = h.write; there = k; of_block = h.of_block; value = h.value; writes = h.writes; chose = h.chose })
          ])
        ]
      ]

  record IsGiving (r : Record) (value : List ℕ) (end : ℕ) : Type 0 where
    of_block : r.block ≡ block
    ended : r.end ≡ Some end
    how : How
    rounds : ℕ
    gave : r.outcome ≡ Some (Gave stamp value how rounds)

  abbrev HasGiving : Record → Type 0
  HasGiving r = (value : List ℕ) × (end : ℕ) × IsGiving r value end

  gives : (o : Option Outcome) → Decided ((value : List ℕ) × (how : How) × (rounds : ℕ) × (o ≡ Some (Gave stamp value how rounds)))
  gives None = inr (λ h. let e = h.3 in cc)
  gives (Some (Wrote t)) = inr (λ h. let e = h.3 in cc)
  gives (Some Spent) = inr (λ h. let e = h.3 in cc)
  gives (Some (Outvoted nodes)) = inr (λ h. let e = h.3 in cc)
  gives (Some (Gave t value how rounds)) =
      elim (stamps_at t stamp (same_stamp t stamp) refl)
      [ inl e ↦ inl (value, how, rounds, ap (λ (x : Stamp). Some (Gave x value how rounds)) e) | inr n ↦ inr (λ h. n (let e = h.3 in cc)) ]

  ends : (o : Option ℕ) → Decided ((end : ℕ) × (o ≡ Some end))
  ends None = inr (λ h. let e = h.1 in cc)
  ends (Some end) = inl (end, refl)

  giving : (r : Record) → Decided (HasGiving r)
  giving r = elim (numbers r.block block) [
    | inr n ↦ inr (λ h. n h.2.of_block)
    | inl e ↦ elim (ends r.end) [
      | inr n ↦ inr (λ h. n (h.1, h.2.ended))
      | inl f ↦ elim (gives r.outcome)
          [ inr n ↦ inr (λ h. n (h.0, h.2.how, h.2.rounds, h.2.gave)) | inl g ↦ inl (g.0, f.0, record { of_block = e; ended = f.1; how = g.1; rounds = g.2; gave = g.3 }) ]
    ]
  ]

  abbrev AtHead : (r : Record) (rs : List Record) → HasGiving r → Type 0
  AtHead r rs h = HasRead (r ∷ rs) block stamp h.0 h.1

  at_head : (r : Record) (rs : List Record) (h : HasGiving r) → HasRead (r ∷ rs) block stamp h.0 h.1
  at_head r rs h = record { read = r; there = Contains-head r rs; of_block = h.2.of_block; ended = h.2.ended; how = h.2.how; rounds = h.2.rounds; gave = h.2.gave }

  in_rest : (r : Record) (rs : List Record) (value : List ℕ) (end : ℕ) → HasRead rs block stamp value end → HasRead (r ∷ rs) block stamp value end
  in_rest r rs value end h = record { read = h.read; there = Contains-rest h.read r rs h.there; of_block = h.of_block; ended = h.ended; how = h.how; rounds = h.rounds; gave = h.gave }

  split : (r : Record) (rs : List Record) (value : List ℕ) (end : ℕ) → HasRead (r ∷ rs) block stamp value end → (IsGiving r value end) ⊎ HasRead rs block stamp value end
  split r rs value end h =
      elim (Contains-cons_cases h.read r rs h.there) [
        | inl e ↦ inl (rw (← e) (record { of_block = h.of_block; ended = h.ended; how = h.how; rounds = h.rounds; gave = h.gave }))
        | inr k ↦ inr (record { read = h.read; there = k; of_block = h.of_block; ended = h.ended; how = h.how; rounds = h.rounds; gave = h.gave })
      ]

  same_end : (r : Record) (v u : List ℕ) (a b : ℕ) → IsGiving r v a → IsGiving r u b → a ≡ b
  same_end r v u a b h k = let e = h.ended in let f = k.ended in cc

  -- the first of the reads that gave the stamp
  pub record FirstRead (rs : List Record) : Type 0 where
    pub value : List ℕ
    pub end : ℕ
    pub is : HasRead rs block stamp value end
    pub first : (other : List ℕ) (place : ℕ) → HasRead rs block stamp other place → end ≤ place

  earlier : (r : Record) (rs : List Record) (h : HasGiving r) (k : FirstRead rs) (b : Bool) → leb h.1 k.end ≡ b → FirstRead (r ∷ rs)
  earlier r rs h k true e =
      let l : h.1 ≤ k.end = grind (arith, nat_tests) in
      record { value = h.0; end = h.1; is = at_head r rs h; first = λ o p x. elim (split r rs o p x) [ inl g ↦ omega (arith, same_end r h.0 o h.1 p h.2 g) | inr g ↦ omega (arith, k.first o p g, l) ] }
  earlier r rs h k false e =
      let l : k.end < h.1 = grind (arith, nat_tests) in
      record { value = k.value; end = k.end; is = in_rest r rs k.value k.end k.is; first = λ o p x. elim (split r rs o p x) [ inl g ↦ omega (arith, same_end r h.0 o h.1 p h.2 g, l) | inr g ↦ k.first o p g ] }

  pub find_read : (rs : List Record) → FirstRead rs ⊎ ((value : List ℕ) (end : ℕ) → HasRead rs block stamp value end → ⊥)
  find_read [] = inr (λ value end h. Contains-none h.read h.there)
  find_read (r ∷ rs) =
      let rest = find_read rs in
      elim (giving r) [
        | inr n ↦ elim rest [
          | inl h ↦ inl (record {
            value = h.value;
            end = h.end;
            is = in_rest r rs h.value h.end h.is;
            first = λ o p k. elim (split r rs o p k) [ inl g ↦ absurd (n (o, p, g)) | inr g ↦ h.first o p g ];
          })
          | inr m ↦ inr (λ v e k. elim (split r rs v e k) [ inl g ↦ n (v, e, g) | inr g ↦ m v e g ])
        ]
        | inl h ↦ elim rest [
          | inr m ↦ inl (record { value = h.0; end = h.1; is = at_head r rs h; first = λ o p k. elim (split r rs o p k) [ inl g ↦ omega (arith, same_end r h.0 o h.1 p h.2 g) | inr g ↦ absurd (m o p g) ] })
          | inl k ↦ inl (earlier r rs h k (leb h.1 k.end) refl)
        ]
      ]
