-- How many writes of a block have chosen a stamp.
use Rattle.std.proofs.Common.{◌≡◌, ℕ, ◌+◌, ◌<◌, ◌≤◌, Bool, true, false, ◌||◌, ◌&&◌, List, [], ◌∷◌, length, map, Option, refl, sym, ap, subst, ◌∙◌, inl, inr, arith}
use Rattle.std.specs.Prelude.{nat_eq, ◌==◌, if◌then◌else◌}
use Rattle.std.specs.List.{Contains, AllByRecursion, IsDistinct}
use Rattle.std.specs.Set.{is_member}
use Rattle.std.proofs.lemmas.Bool.{cases_Bool, eqb-true}
use Rattle.std.proofs.lemmas.Bool.Decides.{nat_tests}
use Rattle.std.proofs.lemmas.Cmp.{nat_eq_equiv}
use Rattle.std.proofs.lemmas.Map.Made.{length-le_from_is_member}
use Rattle.stamp_order.specs.declared.Stamp.{Stamp}
use Rattle.protocol.specs.Messages.{Body, Message}
use Rattle.wire_forms.specs.declared.Body.TheVariants.{Ask as Asks, Answer as Answers}
use Rattle.protocol.specs.Setting.{Setting}
use Rattle.protocol.specs.Operations.{Work}
use Rattle.protocol.specs.Operations.Work.{Reads, Writes}
use Rattle.protocol.specs.World.{Record}
use Rattle.protocol.specs.Report.{Ascend}
use Rattle.protocol.specs.Bounds.{is_chosen, choices, lied, lied_time}
use Rattle.soak_loads.proofs.Records.{writes_by, IsWriting}
use Rattle.lists.proofs.lemmas.Members.{Contains-head, Contains-none, Contains-rest, Contains-cons_cases}
use Rattle.protocol.proofs.lemmas.Counting.{both_true}

abbrev pub writes : List Record → ℕ
writes [] = 0
writes (r ∷ rs) = writes_by r.work + writes rs

-- where the writes among these start
abbrev start_by : Work → ℕ → List ℕ → List ℕ
start_by Reads start starts = starts
start_by (Writes value) start starts = start ∷ starts

abbrev write_starts : List Record → List ℕ
write_starts [] = []
write_starts (r ∷ rs) = start_by r.work r.start (write_starts rs)

write_count : (rs : List Record) → length (write_starts rs) ≡ writes rs
write_count [] = refl
write_count (r ∷ rs) = by r.work (write_count rs)
  where
    by : (work : Work) → length (write_starts rs) ≡ writes rs → length (start_by work r.start (write_starts rs)) ≡ writes_by work + writes rs
    by Reads e = omega arith
    by (Writes value) e = omega arith

-- where those start that write the block and have chosen a stamp
abbrev chose : ℕ → Record → Bool
chose block r = (r.block == block) && is_chosen r.work r.stamp

abbrev chosen_starts : ℕ → List Record → List ℕ
chosen_starts block [] = []
chosen_starts block (r ∷ rs) = if chose block r then r.start ∷ chosen_starts block rs else chosen_starts block rs

chosen_count : (block : ℕ) (rs : List Record) → length (chosen_starts block rs) ≡ choices block rs
chosen_count block [] = refl
chosen_count block (r ∷ rs) = by (chose block r) (chosen_count block rs)
  where
    by : (b : Bool) → length (chosen_starts block rs) ≡ choices block rs → length (if b then r.start ∷ chosen_starts block rs else chosen_starts block rs) ≡ (if b then 1 else 0) + choices block rs
    by true e = omega arith
    by false e = omega arith

above_all : (block x : ℕ) (rs : List Record) → AllByRecursion (λ y. x < y) (map (λ r. r.start) rs) → AllByRecursion (λ y. nat_eq x y ≡ false) (chosen_starts block rs)
above_all block x [] h = tt
above_all block x (r ∷ rs) h = by (chose block r) (above_all block x rs h.1)
  where
    other : nat_eq x r.start ≡ false
    other = let lt = h.0 in grind (arith, nat_tests)

    by : (b : Bool) → AllByRecursion (λ y. nat_eq x y ≡ false) (chosen_starts block rs) → AllByRecursion (λ y. nat_eq x y ≡ false) (if b then r.start ∷ chosen_starts block rs else chosen_starts block rs)
    by true rest = (other, rest)
    by false rest = rest

distinct : (block : ℕ) (rs : List Record) → Ascend (map (λ r. r.start) rs) → IsDistinct nat_eq (chosen_starts block rs)
unfolding IsDistinct
distinct block [] h = tt
distinct block (r ∷ rs) h = by (chose block r) (distinct block rs h.1)
  where
    by : (b : Bool) → IsDistinct nat_eq (chosen_starts block rs) → IsDistinct nat_eq (if b then r.start ∷ chosen_starts block rs else chosen_starts block rs)
    by true rest = (above_all block r.start rs h.0, rest)
    by false rest = rest

chosen_writes : (work : Work) (stamp : Option Stamp) → is_chosen work stamp ≡ true → IsWriting work
chosen_writes Reads stamp e = absurd cc
chosen_writes (Writes value) stamp e = tt

-- who chose and starts here is one of these
chosen_from : (block q : ℕ) (rs : List Record) → is_member nat_eq (chosen_starts block rs) q ≡ true → (r : Record) × Contains rs r × (r.block ≡ block) × IsWriting r.work × (q ≡ r.start)
chosen_from block q [] is = absurd cc
chosen_from block q (r ∷ rs) is =
    let rest : is_member nat_eq (chosen_starts block rs) q ≡ true → (x : Record) × Contains (r ∷ rs) x × (x.block ≡ block) × IsWriting x.work × (q ≡ x.start) =
    (λ k. let f = chosen_from block q rs k in (f.0, Contains-rest f.0 r rs f.1, f.2, f.3, f.4)) in
    by (chose block r) refl rest is
  where
    by : (b : Bool) → chose block r ≡ b → (is_member nat_eq (chosen_starts block rs) q ≡ true → (x : Record) × Contains (r ∷ rs) x × (x.block ≡ block) × IsWriting x.work × (q ≡ x.start))
        → is_member nat_eq (if b then r.start ∷ chosen_starts block rs else chosen_starts block rs) q ≡ true
        → (x : Record) × Contains (r ∷ rs) x × (x.block ≡ block) × IsWriting x.work × (q ≡ x.start)
    by false e rest is = rest is
    by true e rest is =
        let two = both_true (r.block == block) (is_chosen r.work r.stamp) e in
        elim (cases_Bool (nat_eq q r.start)) [
          | inl same ↦ (r, Contains-head r rs, eqb-true r.block block two.0, chosen_writes r.work r.stamp two.1, eqb-true q r.start same)
          | inr other ↦ rest (ap (λ b. b || is_member nat_eq (chosen_starts block rs) q) (sym other) ∙ is)
        ]

member_start : (rs : List Record) (r : Record) → Contains rs r → IsWriting r.work → is_member nat_eq (write_starts rs) r.start ≡ true
member_start [] r there k = absurd (Contains-none r there)
member_start (x ∷ xs) r there k =
    elim (Contains-cons_cases r x xs there) [
      | inl e ↦ here x.work (subst (λ (y : Record). IsWriting y.work) e k) (ap (λ (y : Record). y.start) e)
      | inr t ↦ later x.work (member_start xs r t k)
    ]
  where
    here : (work : Work) → IsWriting work → r.start ≡ x.start → is_member nat_eq (start_by work x.start (write_starts xs)) r.start ≡ true
    here Reads k e = absurd k
    here (Writes value) k e = let same : nat_eq r.start x.start ≡ true = grind (arith, nat_tests) in rw same refl

    later : (work : Work) → is_member nat_eq (write_starts xs) r.start ≡ true → is_member nat_eq (start_by work x.start (write_starts xs)) r.start ≡ true
    later Reads m = m
    later (Writes value) m = or_right (nat_eq r.start x.start) _ m
      where
        or_right : (a b : Bool) → b ≡ true → (a || b) ≡ true
        or_right true b h = refl
        or_right false b h = h

-- where these are all records of the block, no more writes of it have chosen a stamp than there are among them
pub choices_few : (block : ℕ) (records rs : List Record) → Ascend (map (λ r. r.start) records) → ((r : Record) → Contains records r → r.block ≡ block → Contains rs r) → choices block records ≤ writes rs
choices_few block records rs ascend all =
    let few = length-le_from_is_member nat_eq_equiv (chosen_starts block records) (write_starts rs) (distinct block records ascend)
    (λ q is. let f = chosen_from block q records is in ap (is_member nat_eq (write_starts rs)) f.4 ∙ member_start rs f.0 (all f.0 f.1 f.2) f.3) in
    omega (arith, few, chosen_count block records, write_count rs)

-- where no client lies, no time was lied
module _ (s : Setting) (honest : (client : ℕ) → s.lying_client client ≡ false) where
  none_lied : (block : ℕ) (m : Message) (body : Body) → lied_time s block m body ≡ 0
  none_lied block m (Asks ask) = rw (honest m.client) refl
  none_lied block m (Answers reply) = refl

  pub no_lies : (block : ℕ) (pool : List Message) → lied s block pool ≡ 0
  no_lies block [] = refl
  no_lies block (m ∷ ms) = rw (none_lied block m m.body, no_lies block ms) refl
