-- Clients that ascend.
use Rattle.std.proofs.Common.{◌≡◌, ◌⊎◌, ℕ, ◌+◌, ◌<◌, ◌≤◌, List, [], ◌∷◌, ◌++◌, map, refl, sym, subst, inl, inr, arith}
use Rattle.std.specs.List.{Contains, AllByRecursion}
use Rattle.std.proofs.lemmas.List.{map-append}
use Rattle.std.proofs.lemmas.List.Elements.{Contains-push}
use Rattle.protocol.specs.Report.{Ascend}
use Rattle.journals.specs.declared.desk.DeskJournal.{DeskJournal}
use Rattle.lists.proofs.lemmas.Members.{Contains-none, Contains-cons_cases, all_push}
use Rattle.protocol.proofs.lemmas.Starts.{ascend_push}
use Rattle.journals.proofs.lemmas.Lists.{all_below}

abbrev pub clients_of : List DeskJournal → List ℕ
clients_of ds = map (λ d. d.client) ds

-- numbers that ascend, and the least one that may follow them
pub record IsLeast (ns : List ℕ) (least : ℕ) : Type 0 where
  pub ascend : Ascend ns
  pub below : AllByRecursion (λ m. m < least) ns
  pub tight : (least ≡ 0) ⊎ ((m : ℕ) × Contains ns m × (least ≡ m + 1))

pub more_least : (ds : List DeskJournal) (d : DeskJournal) (least : ℕ) → IsLeast (clients_of ds) least → least ≤ d.client → IsLeast (clients_of (ds ++ d ∷ [])) (d.client + 1)
more_least ds d least h l =
    let under = all_below (clients_of ds) least d.client l h.below in
    subst (λ (ns : List ℕ). IsLeast ns (d.client + 1)) (sym (map-append (λ (x : DeskJournal). x.client) ds (d ∷ []))) (record {
      ascend = ascend_push (clients_of ds) d.client h.ascend under;
      below = all_push (λ m. m < d.client + 1) (clients_of ds) d.client (all_below (clients_of ds) d.client (d.client + 1) (omega arith) under) (omega arith);
      tight = inr (d.client, Contains-push (clients_of ds) d.client, refl);
    })

all_last : (P : ℕ → Type 0) (ns : List ℕ) (n : ℕ) (more : List ℕ) → AllByRecursion P (ns ++ (n ∷ more)) → P n
all_last P [] n more h = h.0
all_last P (m ∷ ns) n more h = all_last P ns n more h.1

ascend_less : (ns : List ℕ) (n : ℕ) (more : List ℕ) → Ascend (ns ++ (n ∷ more)) → (m : ℕ) → Contains ns m → m < n
ascend_less [] n more h m there = absurd (Contains-none m there)
ascend_less (k ∷ ns) n more h m there =
    let rest = ascend_less ns n more h.1 m in
    elim (Contains-cons_cases m k ns there) [ inl e ↦ subst (λ (x : ℕ). x < n) (sym e) (all_last (λ y. k < y) ns n more h.0) | inr t ↦ rest t ]

-- a client below the least one that may follow
pub not_ascending : (ds : List DeskJournal) (d : DeskJournal) (more : List DeskJournal) (least : ℕ) → IsLeast (clients_of ds) least → d.client < least → Ascend (clients_of (ds ++ (d ∷ more))) → ⊥
not_ascending ds d more least h l up =
    let all : Ascend (clients_of ds ++ (d.client ∷ clients_of more)) = subst Ascend (map-append (λ (x : DeskJournal). x.client) ds (d ∷ more)) up in
    elim h.tight [
      | inl e ↦ absurd (omega (arith, e, l))
      | inr q ↦ (let k = ascend_less (clients_of ds) d.client (clients_of more) all q.0 q.1 in omega (arith, k, q.2, l))
    ]
