-- Gathering what a function gives at the numbers up to one more.
use Rattle.std.proofs.Common.{◌≡◌, ◌⊎◌, ℕ, zero, suc, ◌+◌, ◌<◌, ◌≤◌, Bool, true, false, List, [], ◌∷◌, ◌++◌, length, take, get_or, map, Option, refl, sym, ◌∙◌, ap, inl, inr, arith, length-take, length-append}
use Rattle.std.specs.declared.option.Option.TheVariants.{None, Some}
use Rattle.std.proofs.lemmas.List.{map-append, take_all, take-append-le, length-map, get_or_default}
use Rattle.std.specs.List.{AllByRecursion}
use Rattle.frag_check.specs.Known.{HasItsDigest}
use Rattle.cross_sum.specs.declared.part.Part.{Part}
use Rattle.wire_forms.specs.declared.message.Version.{Version}
use Rattle.protocol.specs.Count.{collect, one_more}
use Rattle.protocol.specs.Operations.{only_if, numbered, part_of, sum_of_first}
use Rattle.stamp_order.specs.declared.Stamp.{Stamp}
use Rattle.wire_forms.specs.declared.message.Reply.{Reply}
use Rattle.candidate_class.specs.Stamps.{stamp_at, is_stamp}
use Rattle.operation_core.specs.Counting.{answer_at}
use Rattle.read_core.specs.Candidates.{found_in, carrier, shown_parts}
use Rattle.read_core.proofs.Counts.{collect-next}

pub collect-some : {A : Type 0} (k : ℕ) (f : ℕ → Option A) (x : A) → f k ≡ Some x → collect (k + 1) f ≡ collect k f ++ x ∷ []
collect-some k f x e = collect-next k f ∙ ap (one_more (collect k f)) e

pub collect-none : {A : Type 0} (k : ℕ) (f : ℕ → Option A) → f k ≡ None → collect (k + 1) f ≡ collect k f
collect-none k f e = collect-next k f ∙ ap (one_more (collect k f)) e

pub numbered-only : (b : Bool) (i : ℕ) (o : Option Version) → only_if b (numbered i o) ≡ numbered i (only_if b o)
numbered-only true i o = refl
numbered-only false i o = refl

-- what node i carries
pub carrier_at : (answers : List (Option Reply)) (stamps : List (Option Stamp)) (stamp : Stamp) (i : ℕ) (answer : Option Reply) (o : Option Version) → i < length answers → answer ≡ get_or answers i answer
    → o ≡ only_if (is_stamp stamp (stamp_at stamps i)) (found_in answer) → carrier answers stamps stamp i ≡ numbered i o
carrier_at answers stamps stamp i answer o l e h =
    numbered-only (is_stamp stamp (stamp_at stamps i)) i (found_in (answer_at answers i))
    ∙ ap (λ x. numbered i (only_if (is_stamp stamp (stamp_at stamps i)) (found_in x))) (get_or_default answers i None answer l ∙ sym e)
    ∙ ap (numbered i) (sym h)

take_short : {A : Type 0} (m : ℕ) (xs : List A) (x : A) → length (take m xs) < m → take m (xs ++ x ∷ []) ≡ take m xs ++ x ∷ []
take_short m xs x l =
    let size = length-take m xs in
    let short : length xs < m = grind (arith, size, l) in
    let one = length-append xs (x ∷ []) in
    let all : take m (xs ++ x ∷ []) ≡ xs ++ x ∷ [] = take_all m (xs ++ x ∷ []) (omega (arith, one, short)) in
    let same : take m xs ≡ xs = take_all m xs (omega (arith, short)) in
    all ∙ ap (λ ys. ys ++ x ∷ []) (sym same)

take_full : {A : Type 0} (m : ℕ) (xs : List A) (x : A) → m ≤ length (take m xs) → take m (xs ++ x ∷ []) ≡ take m xs
take_full m xs x l = let size = length-take m xs in take-append-le m xs (x ∷ []) (grind (arith, size, l))

module _ (m i : ℕ) (f : ℕ → Option (ℕ × Version)) (parts : List Part) (shown : shown_parts parts ≡ map part_of (take m (collect i f))) where
  len : length parts ≡ length (take m (collect i f))
  len = sym (length-map parts (λ (p : Part). (p.number, p.bytes))) ∙ ap length shown ∙ length-map (take m (collect i f)) part_of

  pub part_pushed : (p : Part) (v : Version) → length parts < m → f i ≡ Some (i, v) → p.number ≡ i → p.bytes ≡ v.fragment → shown_parts (parts ++ p ∷ []) ≡ map part_of (take m (collect (i + 1) f))
  part_pushed p v l e number bytes =
      let pair : (p.number, p.bytes) ≡ part_of (i, v) = λ j. (number j, bytes j) in
      map-append (λ (p : Part). (p.number, p.bytes)) parts (p ∷ [])
      ∙ ap (λ (ps : List (ℕ × List ℕ)). ps ++ (p.number, p.bytes) ∷ []) shown
      ∙ ap (λ (q : ℕ × List ℕ). map part_of (take m (collect i f)) ++ q ∷ []) pair
      ∙ sym (map-append part_of (take m (collect i f)) ((i, v) ∷ []))
      ∙ ap (map part_of) (sym (take_short m (collect i f) (i, v) (omega (arith, len, l))))
      ∙ ap (λ (qs : List (ℕ × Version)). map part_of (take m qs)) (sym (collect-some i f (i, v) e))

  pub parts_full : (q : ℕ × Version) → m ≤ length parts → f i ≡ Some q → shown_parts parts ≡ map part_of (take m (collect (i + 1) f))
  parts_full q l e =
      shown
      ∙ ap (map part_of) (sym (take_full m (collect i f) q (omega (arith, len, l))))
      ∙ ap (λ (qs : List (ℕ × Version)). map part_of (take m qs)) (sym (collect-some i f q e))

  pub parts_past : f i ≡ None → shown_parts parts ≡ map part_of (take m (collect (i + 1) f))
  parts_past e = shown ∙ ap (λ (qs : List (ℕ × Version)). map part_of (take m qs)) (sym (collect-none i f e))

-- the first that is given is the first of all
first_stays : (n i : ℕ) (f : ℕ → Option (ℕ × Version)) (q : ℕ × Version) → i < n → collect i f ≡ [] → f i ≡ Some q → (rest : List (ℕ × Version)) × (collect n f ≡ q ∷ rest)
first_stays zero i f q l none e = absurd (omega arith)
first_stays (suc k) i f q l none e =
    let c : (i ≡ k) ⊎ (i < k) = grind arith in
    elim c [
      | inl same ↦ ([], (let g : collect k f ≡ [] = rw (← same) none in let h : f k ≡ Some q = rw (← same) e in rw (g, h) refl))
      | inr m ↦ (let r = first_stays k i f q m none e in more (f k) r.0 r.1)
    ]
  where
    more : (o : Option (ℕ × Version)) (rest : List (ℕ × Version)) → collect k f ≡ q ∷ rest → (all : List (ℕ × Version)) × (one_more (collect k f) o ≡ q ∷ all)
    more None rest h = (rest, h)
    more (Some x) rest h = (rest ++ x ∷ [], ap (λ ys. ys ++ x ∷ []) h)

pub first_sum_is : (n i : ℕ) (f : ℕ → Option (ℕ × Version)) (v : Version) → i < n → collect i f ≡ [] → f i ≡ Some (i, v) → sum_of_first (collect n f) ≡ v.sum
first_sum_is n i f v l none e = let r = first_stays n i f (i, v) l none e in ap sum_of_first r.1

-- one more part whose digest is known
pub known_pushed : (sum : List (List ℕ)) (parts : List Part) (p : Part) → AllByRecursion (HasItsDigest sum) parts → HasItsDigest sum p → AllByRecursion (HasItsDigest sum) (parts ++ p ∷ [])
known_pushed sum [] p h k = (k, tt)
known_pushed sum (x ∷ parts) p h k = (h.0, known_pushed sum parts p h.1 k)
