-- The values that the operations of a block give and write.
use Rattle.std.proofs.Common.{◌≡◌, ℕ, zero, suc, ◌+◌, ◌<◌, ◌≤◌, false, List, [], ◌∷◌, ◌++◌, map, refl, sym, ap, subst, ◌∙◌, ◌⊎◌, inl, inr, arith}
use Rattle.std.specs.Prelude.{◌==◌}
use Rattle.std.specs.List.{Contains, flat_map, range_with_len}
use Rattle.std.proofs.lemmas.Bool.Decides.{nat_tests}
use Rattle.protocol.specs.Count.{update}
use Rattle.protocol.specs.Operations.{Work}
use Rattle.protocol.specs.Operations.Work.{Reads, Writes}
use Rattle.protocol.specs.World.{Record}
use Rattle.protocol.specs.History.{Entry, Kind, LegalFrom, legal_at, values_after}
use Rattle.protocol.specs.History.Kind.{Read, Write, Foreign}
use Rattle.protocol.proofs.lemmas.Counting.{update-same}
use Rattle.soak_loads.proofs.Records.{record_entry, value_by}
use Rattle.lists.proofs.lemmas.Members.{Contains-head, Contains-rest}

abbrev after_all : List Entry → (ℕ → List ℕ) → ℕ → List ℕ
after_all [] values = values
after_all (e ∷ es) values = after_all es (values_after e.kind e values)

split : (xs ys : List Entry) (values : ℕ → List ℕ) → LegalFrom values (xs ++ ys) → LegalFrom values xs × LegalFrom (after_all xs values) ys
split [] ys values h = (tt, h)
split (x ∷ xs) ys values h = let more = split xs ys (values_after x.kind x values) h.1 in ((h.0, more.0), more.1)

apart : (a b : ℕ) → a < b → (b == a) ≡ false
apart a b l = grind (arith, nat_tests)

after_one : (kind : Kind) (e : Entry) (values : ℕ → List ℕ) (b : ℕ) → e.block < b → values_after kind e values b ≡ values b
after_one Read e values b l = refl
after_one Write e values b l = rw (apart e.block b l) refl
after_one Foreign e values b l = rw (apart e.block b l) refl

-- entries of lower blocks leave a block as it is
untouched : (a b : ℕ) → a < b → (xs : List Entry) → ((e : Entry) → Contains xs e → e.block ≡ a) → (values : ℕ → List ℕ) → after_all xs values b ≡ values b
untouched a b l [] is values = refl
untouched a b l (x ∷ xs) is values =
    let here = is x (Contains-head x xs) in
    untouched a b l xs (λ e i. is e (Contains-rest e x xs i)) (values_after x.kind x values) ∙ after_one x.kind x values b (omega arith)

-- a history block by block is legal in each block
pub legal_in : (g : ℕ → List Entry) → ((b : ℕ) (e : Entry) → Contains (g b) e → e.block ≡ b) → (a n b : ℕ) → a ≤ b → b < a + n
    → (values : ℕ → List ℕ) → LegalFrom values (flat_map g (range_with_len a n)) → (there : ℕ → List ℕ) × (there b ≡ values b) × LegalFrom there (g b)
legal_in g is a zero b low high values h = absurd (omega arith)
legal_in g is a (suc n) b low high values h = by (first_or a b low) (λ more from k. legal_in g is (a + 1) n b (omega arith) (omega arith) from k)
  where
    parts : LegalFrom values (g a) × LegalFrom (after_all (g a) values) (flat_map g (range_with_len (a + 1) n))
    parts = split (g a) (flat_map g (range_with_len (a + 1) n)) values h

    first_or : (a b : ℕ) → a ≤ b → (b ≡ a) ⊎ (a < b)
    first_or zero zero l = inl refl
    first_or zero (suc b) l = inr (omega arith)
    first_or (suc a) zero l = absurd (omega arith)
    first_or (suc a) (suc b) l = elim (first_or a b (omega arith)) [ inl e ↦ inl (ap suc e) | inr k ↦ inr (omega arith) ]

    by : (b ≡ a) ⊎ (a < b) → (a < b → (from : ℕ → List ℕ) → LegalFrom from (flat_map g (range_with_len (a + 1) n)) → (there : ℕ → List ℕ) × (there b ≡ from b) × LegalFrom there (g b))
        → (there : ℕ → List ℕ) × (there b ≡ values b) × LegalFrom there (g b)
    by (inl same) go = (values, refl, subst (λ (k : ℕ). LegalFrom values (g k)) (sym same) parts.0)
    by (inr more) go =
        let rest = go more (after_all (g a) values) parts.1 in
        (rest.0, rest.1 ∙ untouched a b more (g a) (is a) values, rest.2)

-- a read has the value that was written last
abbrev pub next_value : Work → List ℕ → List ℕ
next_value Reads value = value
next_value (Writes written) value = written

abbrev pub IsGiven : Work → List ℕ → List ℕ → Type 0
IsGiven Reads value own = own ≡ value
IsGiven (Writes written) value own = Unit {0}

abbrev pub Valued : List ℕ → List Record → Type 0
Valued value [] = Unit {0}
Valued value (r ∷ rs) = IsGiven r.work value (value_by r.work r.outcome) × Valued (next_value r.work value) rs

pub valued : (block : ℕ) (value : List ℕ) (values : ℕ → List ℕ) (rs : List Record) → values block ≡ value → ((r : Record) → Contains rs r → r.block ≡ block)
    → LegalFrom values (map record_entry rs) → Valued value rs
valued block value values [] at is h = tt
valued block value values (r ∷ rs) at is h = by r.work refl (λ v vs e k. valued block v vs rs e (λ x i. is x (Contains-rest x r rs i)) k)
  where
    here : r.block ≡ block
    here = is r (Contains-head r rs)

    by : (work : Work) → r.work ≡ work → ((v : List ℕ) (vs : ℕ → List ℕ) → vs block ≡ v → LegalFrom vs (map record_entry rs) → Valued v rs) → IsGiven work value (value_by work r.outcome) × Valued (next_value work value) rs
    by Reads e go =
        let legal : value_by Reads r.outcome ≡ values r.block = subst (λ (k : Work). legal_at (kind_at k) (at_work k) values) e h.0 in
        let rest : LegalFrom values (map record_entry rs) = subst (λ (k : Work). LegalFrom (values_after (kind_at k) (at_work k) values) (map record_entry rs)) e h.1 in
        (legal ∙ ap values here ∙ at, go value values at rest)
      where
        kind_at : Work → Kind
        kind_at k = (record_entry (record r { work = k })).kind

        at_work : Work → Entry
        at_work k = record_entry (record r { work = k })
    by (Writes written) e go =
        let rest : LegalFrom (update values r.block written) (map record_entry rs) = subst (λ (k : Work). LegalFrom (values_after (kind_at k) (at_work k) values) (map record_entry rs)) e h.1 in
        (tt, go written (update values r.block written) (ap (update values r.block written) (sym here) ∙ update-same values r.block written) rest)
      where
        kind_at : Work → Kind
        kind_at k = (record_entry (record r { work = k })).kind

        at_work : Work → Entry
        at_work k = record_entry (record r { work = k })
