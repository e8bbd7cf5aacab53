-- Members of lists, and functions changed at one number.
use Rattle.std.proofs.Common.{◌≡◌, ℕ, ◌<◌, List, [], ◌∷◌, ◌++◌, refl, sym, ◌∙◌, ap, subst, inl, inr, arith, ◌≤◌, ◌+◌, true, false, cond, map, eqb}
use Rattle.std.specs.List.{Contains, AllByRecursion}
use Rattle.std.proofs.lemmas.Bool.Decides.{nat_tests}
use Rattle.protocol.specs.Count.{update}
use Rattle.protocol.specs.Report.{Ascend}
use Rattle.lists.proofs.lemmas.Members.{Contains-none, Contains-cons_cases}
use Rattle.protocol.proofs.lemmas.Counting.{update-cases}
use Rattle.journals.specs.declared.desk.DeskEntry.{DeskEntry}
use Rattle.journals.specs.Desks.{DeskState, desk_after, desk_after_all}
use Rattle.journals.specs.declared.desk.DeskJournal.{DeskJournal}
use Rattle.journals.specs.Journals.{entries_of}

pub update-other : {A : Type 0} (f : ℕ → A) (k : ℕ) (v : A) (j : ℕ) → (j ≡ k → ⊥) → update f k v j ≡ f j
update-other f k v j h = elim (update-cases f k v j) [ inl e ↦ absurd (h e.0) | inr e ↦ e.1 ]

-- at one number the new value, and elsewhere the old ones
pub at_update : {A : Type 0} (P : ℕ → A → Type 0) (f : ℕ → A) (k : ℕ) (v : A) (j : ℕ) → (j ≡ k → P k v) → ((j ≡ k → ⊥) → P j (f j)) → P j (update f k v j)
at_update {A} P f k v j own other = elim (update-cases f k v j) [
  | inl e ↦ subst (P j) (sym e.1) (subst (λ (x : ℕ). P x v) (sym e.0) (own e.0))
  | inr e ↦ subst (P j) (sym e.1) (other e.0)
]

pub all_below : (ns : List ℕ) (a b : ℕ) → a ≤ b → AllByRecursion (λ m. m < a) ns → AllByRecursion (λ m. m < b) ns
all_below [] a b l h = tt
all_below (m ∷ ns) a b l h = ((let k = h.0 in omega (arith, l, k)), all_below ns a b l h.1)

pub state_snoc : (d : DeskState) (es : List DeskEntry) (e : DeskEntry) → desk_after_all d (es ++ e ∷ []) ≡ desk_after (desk_after_all d es) e.number e.act
state_snoc d [] e = refl
state_snoc d (x ∷ es) e = state_snoc (desk_after d x.number x.act) es e

-- the journal of a client is the one of its number, where clients ascend
pub own_entries : (ds : List DeskJournal) → Ascend (map (λ d. d.client) ds) → (d : DeskJournal) → Contains ds d → entries_of ds d.client ≡ d.entries
own_entries [] up d h = absurd (Contains-none d h)
own_entries (e ∷ ds) up d h =
    let rest = own_entries ds up.1 d in
    elim (Contains-cons_cases d e ds h) [
      | inl k ↦ (let t : eqb e.client d.client ≡ true = same e.client d.client (ap (λ (z : DeskJournal). z.client) (sym k)) in ap (λ b. cond b e.entries (entries_of ds d.client)) t ∙ ap (λ (z : DeskJournal). z.entries) (sym k))
      | inr k ↦ (let l = above ds up.0 d k in let t : eqb e.client d.client ≡ false = apart e.client d.client l in ap (λ b. cond b e.entries (entries_of ds d.client)) t ∙ rest k)
    ]
  where
    same : (a b : ℕ) → a ≡ b → eqb a b ≡ true
    same a b e = grind (arith, nat_tests)

    apart : (a b : ℕ) → a < b → eqb a b ≡ false
    apart a b l = grind (arith, nat_tests)

    above : (xs : List DeskJournal) → AllByRecursion (λ n. e.client < n) (map (λ d. d.client) xs) → (z : DeskJournal) → Contains xs z → e.client < z.client
    above [] a z k = absurd (Contains-none z k)
    above (x ∷ xs) a z k =
        let more = above xs a.1 z in
        elim (Contains-cons_cases z x xs k) [ inl f ↦ (let l = a.0 in subst (λ (y : DeskJournal). e.client < y.client) (sym f) l) | inr f ↦ more f ]
