-- The three nodes are a valid setting, no two different strings of the lives share a digest, and a new disk can't answer too early.
use Rattle.std.proofs.Common.{◌≡◌, ℕ, zero, suc, ◌<◌, ◌≤◌, true, false, List, [], ◌∷◌, ◌++◌, length, replicate, refl, sym, ◌∙◌, ap, subst, inl, inr, arith}
use Rattle.std.specs.declared.option.Option.TheVariants.{None, Some}
use Rattle.std.specs.List.{Contains, AllByRecursion}
use Rattle.std.proofs.lemmas.List.{length-append, length-replicate, length-take-le}
use Rattle.lists.proofs.lemmas.Members.{Contains-head, Contains-none, Contains-rest, Contains-cons_cases}
use Rattle.protocol.specs.Messages.{flat}
use Rattle.protocol.specs.Setting.{IsValid, IsBlock, IsFragment, zeros, digest_at}
use Rattle.linear_runs.specs.Linear.{Operation}
use Rattle.linear_runs.specs.Linear.Act.{Read, Write}
use Rattle.linear_runs.specs.Meaning.{ReadsAreFresh}
use Rattle.block_turns.specs.Turns.{Moment, told, turns_of, written_in}
use Rattle.block_turns.specs.Strings.{IsValue, LiesOnce, IsSeen, NoClash}
use Rattle.block_turns.specs.Lives.{IsLife}
use Rattle.block_turns.specs.Turns.Turn.{Changed, Lost, Failed}
use Rattle.block_turns.specs.Strings.IsValue.{zeros_value, to_be_written}
use Rattle.block_turns.specs.Strings.IsSeen.{sum_seen, fragment_seen, sum_kept, fragment_kept}
use Rattle.life_examples.specs.Examples.{short_digest, first_part, three_nodes, two_disks_replaced, cut_off_and_settled, answered_too_early, NoneAnswersTooEarly}
use Rattle.life_examples.proofs.Example.{below_three}
use Rattle.block_turns.proofs.lemmas.EachSetting.{setting_linear}
use Rattle.block_turns.proofs.lemmas.TurnsTold.{told_linear, written_told}

-- ---- the setting

-- of a setting of so many nodes
pub first_decodes : (n : ℕ) (value : List ℕ) (parts : List (ℕ × List ℕ)) → length parts ≡ 1
    → ((q : ℕ × List ℕ) → Contains parts q → (q.0 < n) × (q.1 ≡ value)) → first_part parts ≡ value
first_decodes n value [] long own = absurd (omega (arith, long))
first_decodes n value (p ∷ parts) long own = (own p (Contains-head p parts)).1

pub first_block : (n : ℕ) (parts : List (ℕ × List ℕ)) → length parts ≡ 1
    → ((q : ℕ × List ℕ) → Contains parts q → (q.0 < n) × IsFragment three_nodes q.1) → IsBlock three_nodes (first_part parts)
first_block n [] long fits = absurd (omega (arith, long))
first_block n (p ∷ parts) long fits = (fits p (Contains-head p parts)).1

pub digest_long : (x : List ℕ) → length (short_digest x) ≡ 32
digest_long x =
    let enough : 31 ≤ length (x ++ replicate 31 0) =
    (let a = length-append x (replicate 31 0) in let r = length-replicate {A = ℕ} 31 0 in omega (arith, a, r)) in
    ap suc (length-take-le 31 (x ++ replicate 31 0) enough)

pub is_valid : IsValid three_nodes
is_valid = record {
  liars_few = omega arith;
  quorum_low = omega arith;
  quorum_high = omega arith;
  shares_some = omega arith;
  shares_few = omega arith;
  liars = omega arith;
  length-digest = digest_long;
  length-sum = λ value is. refl;
  digests = λ value i is l. below_three (λ j. digest_at three_nodes (three_nodes.sum_of value) j ≡ short_digest value) refl refl refl i l;
  length-fragment = λ value i is l. is.0;
  bytes-fragment = λ value i is. is.1;
  decodes = λ value parts is long ascend own. first_decodes 3 value parts long own;
  decoded-block = λ parts long ascend fits. first_block 3 parts long fits;
}

-- ---- the strings

-- the string that a digest is of
abbrev back : List ℕ → List ℕ
back (suc zero ∷ v ∷ rest) = v ∷ []
back (suc (suc l) ∷ k ∷ v ∷ rest) = flat (three_nodes.sum_of (v ∷ []))
back _ = []

-- one byte that isn't 0
abbrev IsLater : List ℕ → Type 0
IsLater value = (v : ℕ) × (value ≡ suc v ∷ [])

-- nothing else is to be written, and no node fails
abbrev pub OnlyLater : Moment → Type 0
OnlyLater m = ((value : List ℕ) → written_in m.turn ≡ Some value → IsLater value) × ((i : ℕ) → m.turn ≡ Failed i → ⊥)

pub all_of : (P : Moment → Type 0) (life : List Moment) → AllByRecursion P life → (m : Moment) → Contains life m → P m
all_of P [] all m there = absurd (Contains-none m there)
all_of P (x ∷ life) all m there =
    let rest = all_of P life all.1 m in
    elim (Contains-cons_cases m x life there) [ inl e ↦ subst P (sym e) all.0 | inr a ↦ rest a ]

module _ (life : List Moment) (only : AllByRecursion OnlyLater life) where
  values : {value : List ℕ} → IsValue three_nodes life value → (v : ℕ) × (value ≡ v ∷ [])
  values zeros_value = (0, refl)
  values (to_be_written {m = m} {value = value} there e) = (let r = (all_of OnlyLater life only m there).0 value e in (suc r.0, r.1))

  none_lies : (i : ℕ) → LiesOnce three_nodes life i → ⊥
  none_lies i lies = elim lies [
    | inl e ↦ absurd (let f : false ≡ true = e in cc)
    | inr m ↦ (all_of OnlyLater life only m.0 m.1).1 i m.2
  ]

  sum_back : (value : List ℕ) → (v : ℕ) × (value ≡ v ∷ []) → back (short_digest (flat (three_nodes.sum_of value))) ≡ flat (three_nodes.sum_of value)
  sum_back value r = subst (λ (x : List ℕ). back (short_digest (flat (three_nodes.sum_of x))) ≡ flat (three_nodes.sum_of x)) (sym r.1) refl

  fragment_back : (value : List ℕ) → (v : ℕ) × (value ≡ v ∷ []) → back (short_digest value) ≡ value
  fragment_back value r = subst (λ (x : List ℕ). back (short_digest x) ≡ x) (sym r.1) refl

  is_back : {x : List ℕ} → IsSeen three_nodes life x → back (short_digest x) ≡ x
  is_back (sum_seen {value = value} h) = sum_back value (values h)
  is_back (fragment_seen {value = value} h l) = fragment_back value (values h)
  is_back (sum_kept {i = i} h) = absurd (none_lies i h.lies)
  is_back (fragment_kept {i = i} h) = absurd (none_lies i h.lies)

  pub none_clash : NoClash three_nodes life
  none_clash x y p q e = sym (is_back p) ∙ ap back e ∙ is_back q

pub none_written : (value : List ℕ) → None ≡ Some value → IsLater value
none_written value e = absurd cc

pub byte_written : (v : ℕ) (value : List ℕ) → Some (suc v ∷ []) ≡ Some value → IsLater value
byte_written v value e = (v, (let f : suc v ∷ [] ≡ value = cc in sym f))

pub strings_apart : NoClash three_nodes two_disks_replaced
strings_apart =
    none_clash two_disks_replaced (
      (byte_written 6, λ i e. absurd cc),
      (
        (none_written, λ i e. absurd cc),
        (
          (none_written, λ i e. absurd cc),
          (
            (none_written, λ i e. absurd cc),
            ((none_written, λ i e. absurd cc), ((none_written, λ i e. absurd cc), ((none_written, λ i e. absurd cc), tt))),
          ),
        ),
      ),
    )

pub settled_apart : NoClash three_nodes cut_off_and_settled
settled_apart =
    none_clash cut_off_and_settled (
      (byte_written 6, λ i e. absurd cc),
      (
        (none_written, λ i e. absurd cc),
        (
          (byte_written 8, λ i e. absurd cc),
          (
            (none_written, λ i e. absurd cc),
            ((none_written, λ i e. absurd cc), ((none_written, λ i e. absurd cc), ((none_written, λ i e. absurd cc), tt))),
          ),
        ),
      ),
    )

-- ---- a new disk that answers too early

not_seven : ◌≡◌ {A = List ℕ} (0 ∷ []) (7 ∷ []) → ⊥
not_seven e = absurd (let h : ◌≡◌ {A = ℕ} 0 7 = cc in omega (arith, h))

not_later : (v : ℕ) → ◌≡◌ {A = List ℕ} (0 ∷ []) (suc v ∷ []) → ⊥
not_later v e = absurd (let h : ◌≡◌ {A = ℕ} 0 (suc v) = cc in omega (arith, h))

abbrev written_first : Operation
written_first = record { block = 0; act = Write (7 ∷ []); client = Some 0; start = Some 0; end = Some 0 }

abbrev read_then : Operation
read_then = record { block = 0; act = Read (0 ∷ []); client = Some 0; start = Some 2; end = Some 2 }

module _ (fresh : (first : List ℕ) (ops : List Operation) → ReadsAreFresh first ops) where
  too_early : (life : List Moment) → AllByRecursion OnlyLater life → told 0 0 (turns_of life) ≡ written_first ∷ read_then ∷ []
      → IsLife three_nodes 0 life → ⊥
  too_early life only telling is =
      elim (fresh (zeros three_nodes) (told 0 0 (turns_of life)) read_then (0 ∷ []) written_first
      (told_linear 0 0 (turns_of life) (zeros three_nodes) (setting_linear three_nodes is_valid 0 life is (none_clash life only)))
      (record { there = there read_then (Contains-rest read_then written_first (read_then ∷ []) (Contains-head read_then [])); gave = refl; end = 2; ended = refl })
      (there written_first (Contains-head written_first (read_then ∷ []))) refl
      (record { end = 0; ended = refl; start = 2; began = refl; earlier = omega arith })) [
        | inl e ↦ not_seven e
        | inr w ↦ (
            let m = written_told 0 0 life w.0 (0 ∷ []) w.1.there w.1.wrote in
            let r = (all_of OnlyLater life only m.0 m.1).0 (0 ∷ []) m.2 in
            not_later r.0 r.1)
      ]
    where
      there : (o : Operation) → Contains (written_first ∷ read_then ∷ []) o → Contains (told 0 0 (turns_of life)) o
      there o h = subst (λ (os : List Operation). Contains os o) (sym telling) h

  pub none_too_early : NoneAnswersTooEarly
  none_too_early lives = elim lives [
    | inl is ↦ too_early (answered_too_early (Lost 1))
        ((byte_written 6, λ i e. absurd cc), ((none_written, λ i e. absurd cc), ((none_written, λ i e. absurd cc), tt))) refl is
    | inr is ↦ too_early (answered_too_early Changed)
        ((byte_written 6, λ i e. absurd cc), ((none_written, λ i e. absurd cc), ((none_written, λ i e. absurd cc), tt))) refl is
  ]
