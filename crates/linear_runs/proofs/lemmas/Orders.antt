-- A history's entries on a block, in their order, are operations in time, and their reads give what was last written.
use Rattle.std.proofs.Common.{◌≡◌, ℕ, ◌<◌, Bool, true, false, cond, eqb, filter, map, List, [], ◌∷◌, length, Option, refl, sym, ap, subst, ◌∙◌, inl, inr, arith}
use Rattle.std.specs.declared.option.Option.TheVariants.{None, Some}
use Rattle.std.specs.List.{AllPairs}
use Rattle.std.proofs.lemmas.Bool.{eqb-true, eq-eqb}
use Rattle.std.proofs.lemmas.List.{get_or-map, length-map}
use Rattle.std.proofs.lemmas.List.Elements.{filter_passes}
use Rattle.std.proofs.lemmas.List.Kept.{AllPairs-filter}
use Rattle.protocol.specs.Count.{update}
use Rattle.protocol.specs.History.{Entry, Kind, InTime, LegalFrom, legal_at, values_after}
use Rattle.protocol.specs.History.Kind.{Read as ReadKind, Write as WriteKind, Foreign}
use Rattle.protocol.proofs.lemmas.Counting.{update-cases}
use Rattle.linear_runs.specs.Linear.{Act, Operation, IsBefore, IsInTime, ReadsLast, gives, value_after}
use Rattle.linear_runs.specs.Linear.Act.{Read, Write}

-- what an entry tells of its operation
abbrev pub act_of : Kind → List ℕ → Act
act_of ReadKind value = Read value
act_of _ value = Write value

abbrev pub client_of : Kind → ℕ → Option ℕ
client_of Foreign client = None
client_of _ client = Some client

abbrev pub entry_op : Entry → Operation
entry_op e = record { block = e.block; act = act_of e.kind e.value; client = client_of e.kind e.client; start = e.start; end = e.end }

abbrev pub is_on : ℕ → Entry → Bool
is_on block e = eqb e.block block

-- the operations of the history's entries on the block, in their order
abbrev pub ops_on : ℕ → List Entry → List Operation
ops_on block h = map entry_op (filter (is_on block) h)

-- ---- in time

abbrev IsRight : Entry → Entry → Type 0
IsRight e f = e.block ≡ f.block → IsBefore (entry_op f) (entry_op e) → ⊥

all_right : (h : List Entry) → InTime h → AllPairs IsRight h
all_right h time i j d l lj same b =
    let back : j < i = time j i d lj (omega (arith, l, lj)) (sym same) b.end b.start b.ended b.began b.earlier in
    absurd (omega (arith, back, l))

pub pairs_map : {X Y : Type 0} (f : X → Y) (R : Y → Y → Type 0) (xs : List X) → AllPairs (λ x y. R (f x) (f y)) xs → AllPairs R (map f xs)
pairs_map f R [] h i j d l lj = absurd (omega (arith, lj))
pairs_map f R (x ∷ xs) h i j d l lj =
    let m : j < length (x ∷ xs) = rw length-map at lj in
    let a = get_or-map f (x ∷ xs) i x d (omega (arith, l, m)) in
    let b = get_or-map f (x ∷ xs) j x d m in
    rw (a, b) (h i j x l m)

pub in_time_on : (block : ℕ) (h : List Entry) → InTime h → IsInTime (ops_on block h)
in_time_on block h time =
    pairs_map entry_op (λ earlier later. IsBefore later earlier → ⊥) (filter (is_on block) h)
    (λ i j d l lj b.
    AllPairs-filter IsRight (is_on block) h (all_right h time) i j d l lj
    (eqb-true _ _ (filter_passes (is_on block) h i d (omega (arith, l, lj))) ∙ sym (eqb-true _ _ (filter_passes (is_on block) h j d lj)))
    b)

-- ---- reads give what was last written

pub reads_last_on : (block : ℕ) (values : ℕ → List ℕ) (h : List Entry) → LegalFrom values h → ReadsLast (values block) (ops_on block h)
reads_last_on block values [] legal = tt
reads_last_on block values (e ∷ es) legal = at (eqb e.block block) refl e.kind refl legal.0 (reads_last_on block (values_after e.kind e values) es legal.1)
  where
    set : e.block ≡ block → update values e.block e.value block ≡ e.value
    set same = elim (update-cases values e.block e.value block) [ inl h ↦ h.1 | inr h ↦ absurd (h.0 (sym same)) ]

    kept : (e.block ≡ block → ⊥) → update values e.block e.value block ≡ values block
    kept other = elim (update-cases values e.block e.value block) [ inl h ↦ absurd (other (sym h.0)) | inr h ↦ h.1 ]

    here : (k : Kind) → e.kind ≡ k → e.block ≡ block → legal_at k e values → ReadsLast (values_after k e values block) (ops_on block es) → gives (act_of k e.value) (values block) × ReadsLast (value_after (act_of k e.value) (values block)) (ops_on block es)
    here ReadKind g same now rest = (now ∙ ap values same, rest)
    here WriteKind g same now rest = (tt, subst (λ (v : List ℕ). ReadsLast v (ops_on block es)) (set same) rest)
    here Foreign g same now rest = (tt, subst (λ (v : List ℕ). ReadsLast v (ops_on block es)) (set same) rest)

    aside : (k : Kind) → (e.block ≡ block → ⊥) → ReadsLast (values_after k e values block) (ops_on block es) → ReadsLast (values block) (ops_on block es)
    aside ReadKind other rest = rest
    aside WriteKind other rest = subst (λ (v : List ℕ). ReadsLast v (ops_on block es)) (kept other) rest
    aside Foreign other rest = subst (λ (v : List ℕ). ReadsLast v (ops_on block es)) (kept other) rest

    at : (b : Bool) → eqb e.block block ≡ b → (k : Kind) → e.kind ≡ k → legal_at k e values → ReadsLast (values_after k e values block) (ops_on block es) → ReadsLast (values block) (map entry_op (cond b (e ∷ filter (is_on block) es) (filter (is_on block) es)))
    at true t k g now rest = subst (λ (x : Kind). gives (act_of x e.value) (values block) × ReadsLast (value_after (act_of x e.value) (values block)) (ops_on block es)) (sym g) (here k g (eqb-true _ _ t) now rest)
    at false t k g now rest = aside k (λ same. absurd (let u = eq-eqb e.block block same in cc)) rest
