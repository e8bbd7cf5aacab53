-- A cell's journal is joined to its node's.
use Rattle.std.proofs.Common.{◌≡◌, ◌≢◌, ℕ, zero, suc, ◌+◌, ◌<◌, List, [], ◌∷◌, ◌++◌, length, map, refl, sym, ◌∙◌, ap, inl, inr, arith}
use Rattle.std.specs.Prelude.{slice_get, slice_set, slice_index_or, replicate}
use Rattle.std.specs.declared.option.Option.TheVariants.{Some}
use Rattle.std.specs.List.{range_with_len}
use Rattle.std.proofs.lemmas.Bool.Decides.{eqb_tells}
use Rattle.std.proofs.lemmas.List.{set-set}
use Rattle.std.proofs.lemmas.Option.{get_or_from_slice_get}
use Rattle.journals.specs.declared.node.NodeEntry.{NodeEntry}
use Rattle.locked_nodes.specs.Cells.{CellView}
use Rattle.locked_nodes.specs.Joined.{join}
use Rattle.phase_threads.specs.Standing.{add_cell, node_journal}
use Rattle.phase_threads.proofs.lemmas.Nodes.{journal_more}
use Rattle.client_threads.specs.Running.{node_journals}

module _ (cells : List CellView) (c : CellView) where
  here : (i : ℕ) → c.charter.number ≡ i → node_journal (cells ++ c ∷ []) i ≡ join (node_journal cells i) c.journal
  here i is = journal_more cells c i ∙ added (node_journal cells i)
    where
      added : (acc : List NodeEntry) → add_cell i acc c ≡ join acc c.journal
      added acc = elim (eqb_tells c.charter.number i) [ inl same ↦ rw same.0 refl | inr other ↦ absurd (other.1 is) ]

  elsewhere : (i : ℕ) → c.charter.number ≢ i → node_journal (cells ++ c ∷ []) i ≡ node_journal cells i
  elsewhere i not = journal_more cells c i ∙ passed (node_journal cells i)
    where
      passed : (acc : List NodeEntry) → add_cell i acc c ≡ acc
      passed acc = elim (eqb_tells c.charter.number i) [ inl same ↦ absurd (not same.1) | inr other ↦ rw other.0 refl ]

  later : (from n : ℕ) → c.charter.number < from → map (node_journal (cells ++ c ∷ [])) (range_with_len from n) ≡ map (node_journal cells) (range_with_len from n)
  later from zero l = refl
  later from (suc n) l =
      let head = elsewhere from (λ is. omega (arith, is, l)) in
      let tail = later (from + 1) n (omega (arith, l)) in
      λ i. head i ∷ tail i

  joined_from : (from n j : ℕ) → c.charter.number ≡ from + j
      → map (node_journal (cells ++ c ∷ [])) (range_with_len from n) ≡ slice_set (map (node_journal cells) (range_with_len from n)) j (join (slice_index_or (map (node_journal cells) (range_with_len from n)) j []) c.journal)
  joined_from from zero zero is = refl
  joined_from from zero (suc j) is = refl
  joined_from from (suc n) zero is =
      let head = here from (omega (arith, is)) in
      let tail = later (from + 1) n (omega (arith, is)) in
      λ i. head i ∷ tail i
  joined_from from (suc n) (suc j) is =
      let head = elsewhere from (λ same. omega (arith, same, is)) in
      let tail = joined_from (from + 1) n j (omega (arith, is)) in
      λ i. head i ∷ tail i

  -- with a cell more, its node's journal is joined with the cell's
  pub joined_at : (count : ℕ) → node_journals (cells ++ c ∷ []) count ≡ slice_set (node_journals cells count) c.charter.number (join (slice_index_or (node_journals cells count) c.charter.number []) c.journal)
  joined_at count = joined_from 0 count c.charter.number (omega arith)

-- without cells no node has an entry
pub none_joined : (count : ℕ) → node_journals [] count ≡ replicate count []
none_joined count = from 0 count
  where
    from : (k n : ℕ) → map (node_journal []) (range_with_len k n) ≡ replicate n []
    from k zero = refl
    from k (suc n) = ap (λ (l : List (List NodeEntry)). [] ∷ l) (from (k + 1) n)

-- each of so many nodes has a journal
pub journals_long : (cells : List CellView) (count : ℕ) → length (node_journals cells count) ≡ count
journals_long cells count = from 0 count
  where
    from : (k n : ℕ) → length (map (node_journal cells) (range_with_len k n)) ≡ n
    from k zero = refl
    from k (suc n) = ap suc (from (k + 1) n)

-- a cell more gave its journal
pub one_added : (done : List CellView) (c : CellView) (count node : ℕ) (nodes more : List (List NodeEntry)) (journal : List NodeEntry) → nodes ≡ node_journals done count → node ≡ c.charter.number → journal ≡ c.journal
    → more ≡ slice_set nodes node (join (slice_index_or nodes node []) journal) → more ≡ node_journals (done ++ c ∷ []) count
one_added done c count node nodes more journal was at its is = is ∙ (λ i. slice_set (was i) (at i) (join (slice_index_or (was i) (at i) []) (its i))) ∙ sym (joined_at done c count)

-- a node's journal is taken out, joined and put back
pub joined_again : (old mid new : List (List NodeEntry)) (node : ℕ) (before journal empty es : List NodeEntry) → mid ≡ slice_set old node empty → slice_get old node ≡ Some before → es ≡ join before journal → new ≡ slice_set mid node es
    → new ≡ slice_set old node (join (slice_index_or old node []) journal)
joined_again old mid new node before journal empty es out taken is back =
    back ∙ ap (λ (l : List (List NodeEntry)). slice_set l node es) out ∙ set-set old node empty es
    ∙ ap (slice_set old node) (is ∙ ap (λ (l : List NodeEntry). join l journal) (sym (get_or_from_slice_get old node before [] taken)))
