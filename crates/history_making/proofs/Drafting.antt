-- Sorted drafts of a run's records, and the history of what they keep.
use Rattle.std.proofs.Common.{◌≡◌, ◌↔◌, [], ◌∷◌, ◌*◌, ◌^◌, ◌<◌, ◌≤◌, List, map, length, Option, arith}
use Rattle.std.specs.declared.option.Option.TheVariants.{None, Some}
use Rattle.std.specs.List.{Contains, cons_option}
use Rattle.std.specs.List.Sorted.{IsPermutation}
use Rattle.std.proofs.lemmas.List.{length-map}
use Rattle.std.proofs.lemmas.List.Sorted.{Contains-permutation, IsPermutation-sym, length_permutation}
use Rattle.stamp_order.specs.declared.Stamp.{Stamp}
use Rattle.protocol.specs.World.{Record}
use Rattle.protocol.specs.Report.{Ascend}
use Rattle.protocol.specs.History.{Entry, IsSorted}
use Rattle.history_making.specs.declared.draft.Draft.{Draft}
use Rattle.history_making.specs.Tellings.{AreRecords, IsHistoryOf}
use Rattle.history_making.specs.Drafts.{entry_of, entries_of, candidates, candidate, HaveStarts, AreCandidates, AreKept}
use Rattle.history_making.proofs.Candidates.{candidates_start, are_candidates}
use Rattle.history_making.proofs.Histories.{history}

candidates_length : (rs : List Record) → length (candidates rs) ≤ length rs
candidates_length [] = omega arith
candidates_length (r ∷ rs) = at (candidate r) (candidates_length rs)
  where
    at : (o : Option Entry) → length (candidates rs) ≤ length rs → length (cons_option o (candidates rs)) ≤ length (r ∷ rs)
    at None h = omega (arith, h)
    at (Some e) h = omega (arith, h)

pub drafts_start : (rs : List Record) (ds : List Draft) → Ascend (map (λ r. r.start) rs) → entries_of ds ≡ candidates rs → HaveStarts (entries_of ds)
drafts_start rs ds h q = rw q (candidates_start rs h)

module _ (rs : List Record) (ds : List Draft) (moved : IsPermutation (candidates rs) (entries_of ds)) where
  members : (e : Entry) → Contains (entries_of ds) e ↔ Contains (candidates rs) e
  members e = (
    Contains-permutation (entries_of ds) (candidates rs) e (IsPermutation-sym (candidates rs) (entries_of ds) moved),
    Contains-permutation (candidates rs) (entries_of ds) e moved,
  )

  pub drafts_are_candidates : AreCandidates (entries_of ds)
  drafts_are_candidates e k = are_candidates rs e ((members e).0 k)

  pub few_kept : (ks : List Draft) → length ks ≤ 2 * length ds → length rs < 2 ^ 31 → length ks < 2 ^ 32
  few_kept ks h few = omega (arith, h, length_permutation (candidates rs) (entries_of ds) moved, length-map ds entry_of, candidates_length rs, few)

  pub kept_history : (first : Stamp) → AreRecords rs first → IsSorted (entries_of ds) → (ks : List Draft) → AreKept first (entries_of ds) (entries_of ks) → IsHistoryOf rs first (entries_of ks)
  kept_history first are s ks k = history rs first are (entries_of ds) s members (entries_of ks) k
