-- The journals of cells and of desks, at their numbers.
use Rattle.std.proofs.Common.{◌≡◌, ◌⊎◌, ℕ, zero, suc, ◌+◌, ◌<◌, ◌≤◌, List, [], ◌∷◌, map, refl, sym, ◌∙◌, ap, inl, inr, arith}
use Rattle.std.specs.Prelude.{slice_index_or}
use Rattle.std.specs.List.{Contains, range_with_len}
use Rattle.std.proofs.lemmas.List.Elements.{All-contains}
use Rattle.quorum_rules.specs.Limits.{Numbers}
use Rattle.phase_threads.specs.Standing.{node_journal}
use Rattle.locked_nodes.proofs.lemmas.Joins.{below_tells}
use Rattle.std.proofs.lemmas.Bool.Decides.{eqb_tells}
use Rattle.journals.specs.declared.node.NodeEntry.{NodeEntry}
use Rattle.journals.specs.declared.desk.DeskEntry.{DeskEntry}
use Rattle.journals.specs.Journals.{entries_of}
use Rattle.locked_nodes.specs.Cells.{CellView, Rises, numbers}
use Rattle.client_desks.specs.Desks.{DeskView, numbers_of}
use Rattle.phase_threads.specs.Standing.{journal_at, AreInside}
use Rattle.phase_threads.proofs.lemmas.Nodes.{journal_none}
use Rattle.lists.proofs.lemmas.Members.{Contains-head, Contains-none, Contains-rest, Contains-cons_cases}

-- what stands at a node's number: the entries of its cells, by number
abbrev pub journal_of : Numbers → List CellView → ℕ → List NodeEntry
journal_of config cells i = slice_index_or (map (node_journal cells) (range_with_len 0 config.n)) i []

at_range : (f : ℕ → List NodeEntry) (from n i : ℕ) → i < n → slice_index_or (map f (range_with_len from n)) i [] ≡ f (from + i)
at_range f from zero i l = absurd (omega (arith, l))
at_range f from (suc n) zero l = (let e : from ≡ from + 0 = omega arith in ap f e)
at_range f from (suc n) (suc i) l = (let e : from + 1 + i ≡ from + suc i = omega arith in at_range f (from + 1) n i (omega (arith, l)) ∙ ap f e)

pub past_range : (f : ℕ → List NodeEntry) (from n i : ℕ) → n ≤ i → slice_index_or (map f (range_with_len from n)) i [] ≡ []
past_range f from zero zero l = refl
past_range f from zero (suc i) l = refl
past_range f from (suc n) zero l = absurd (omega (arith, l))
past_range f from (suc n) (suc i) l = past_range f (from + 1) n i (omega (arith, l))

pub journal_is : (config : Numbers) (cells : List CellView) → AreInside config cells → (i : ℕ) → journal_of config cells i ≡ node_journal cells i
journal_is config cells inside i = elim (below_tells i config.n) [
  | inl within ↦ at_range (node_journal cells) 0 config.n i within.1 ∙ (let e : 0 + i ≡ i = omega arith in ap (node_journal cells) e)
  | inr past ↦ past_range (node_journal cells) 0 config.n i past.1 ∙ sym (journal_none cells i (λ c there is. (let l = All-contains (λ c. c.charter.number < config.n) cells c inside there in let g = past.1 in omega (arith, l, is, g))))
]

-- numbers that rise are not below where they begin, and below where they end
pub rises_from : (low : ℕ) (ns : List ℕ) (high : ℕ) → Rises low ns high → low ≤ high
rises_from low [] high h = h
rises_from low (n ∷ ns) high h = (let r = rises_from (n + 1) ns high h.1 in let l = h.0 in omega (arith, r, l))

pub node_rises : (low : ℕ) (es : List NodeEntry) (high : ℕ) → Rises low (numbers es) high → (e : NodeEntry) → Contains es e → (low ≤ e.number) × (e.number < high)
node_rises low [] high h e there = absurd (Contains-none e there)
node_rises low (x ∷ es) high h e there = elim (Contains-cons_cases e x es there) [
  | inl same ↦ (let q : e.number ≡ x.number = ap (λ (y : NodeEntry). y.number) same in let l = h.0 in let r = rises_from (x.number + 1) (numbers es) high h.1 in (omega (arith, q, l), omega (arith, q, r)))
  | inr rest ↦ (let q = node_rises (x.number + 1) es high h.1 e rest in let a = q.0 in let l = h.0 in (omega (arith, a, l), q.1))
]

pub desk_rises : (low : ℕ) (es : List DeskEntry) (high : ℕ) → Rises low (numbers_of es) high → (e : DeskEntry) → Contains es e → (low ≤ e.number) × (e.number < high)
desk_rises low [] high h e there = absurd (Contains-none e there)
desk_rises low (x ∷ es) high h e there = elim (Contains-cons_cases e x es there) [
  | inl same ↦ (let q : e.number ≡ x.number = ap (λ (y : DeskEntry). y.number) same in let l = h.0 in let r = rises_from (x.number + 1) (numbers_of es) high h.1 in (omega (arith, q, l), omega (arith, q, r)))
  | inr rest ↦ (let q = desk_rises (x.number + 1) es high h.1 e rest in let a = q.0 in let l = h.0 in (omega (arith, a, l), q.1))
]

-- what stands at a client's number: the entries of the first desk of that number, or nothing
pub record DeskAt (desks : List DeskView) (c : ℕ) (es : List DeskEntry) : Type 0 where
  pub is : ((d : DeskView) × Contains desks d × (d.id ≡ c) × (es ≡ d.entries)) ⊎ ((es ≡ []) × (Contains (map (λ d. d.id) desks) c → ⊥))

abbrev pub entries_at : List DeskView → ℕ → List DeskEntry
entries_at desks c = entries_of (map journal_at desks) c

pub desk_at : (desks : List DeskView) (c : ℕ) → DeskAt desks c (entries_at desks c)
desk_at [] c = record { is = inr (refl, λ there. Contains-none c there) }
desk_at (d ∷ desks) c = elim (eqb_tells d.id c) [
  | inl same ↦ (let e : entries_at (d ∷ desks) c ≡ d.entries = rw same.0 refl in record { is = inl (d, Contains-head d desks, same.1, e) })
  | inr other ↦ (
      let e : entries_at (d ∷ desks) c ≡ entries_at desks c = rw other.0 refl in
      record {
        is = elim (desk_at desks c).is [
          | inl q ↦ inl (q.0, Contains-rest q.0 d desks q.1, q.2, e ∙ q.3)
          | inr none ↦ inr (e ∙ none.0, λ there. elim (Contains-cons_cases c d.id (map (λ d. d.id) desks) there) [ inl is ↦ other.1 (sym is) | inr rest ↦ none.1 rest ])
        ];
      }
      )
]
