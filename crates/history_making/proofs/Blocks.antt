-- Sorted entries stand by block.
use Rattle.std.proofs.Common.{◌≡◌, ℕ, ◌+◌, ◌<◌, ◌≤◌, List, [], ◌∷◌, length, map, get_or, arith}
use Rattle.std.specs.declared.cmp.Ordering.TheVariants.{Less}
use Rattle.std.specs.List.Sorted.{IsNonDecreasingBy}
use Rattle.std.proofs.lemmas.List.{length-map, get_or-map}
use Rattle.std.proofs.lemmas.List.Sorted.{IsNonDecreasingBy-from_all_adjacent}
use Rattle.protocol.specs.History.{Entry as FullEntry, entry_cmp, IsSorted}
use Rattle.protocol.proofs.lemmas.Entries.{sorted_before}
use Rattle.history_making.specs.declared.entry.Entry.{Entry}
use Rattle.history_making.proofs.lemmas.EntryOrders.{then_less}
use Rattle.history_making.specs.Tellings.{told_entry}

less_block : (e f : FullEntry) → entry_cmp e f ≡ Less → e.block ≤ f.block
unfolding entry_cmp
less_block e f h = then_less e.block f.block _ h

pub told_blocks : (all h : List FullEntry) → IsSorted h → IsNonDecreasingBy (λ e. e.block) (map (told_entry all) h)
told_blocks all h sorted = IsNonDecreasingBy-from_all_adjacent (λ (e : Entry). e.block) (map (told_entry all) h) (adjacent h sorted)
  where
    adjacent : (h : List FullEntry) → IsSorted h → (k : ℕ) (d : Entry) → k + 1 < length (map (told_entry all) h) → (get_or (map (told_entry all) h) k d).block ≤ (get_or (map (told_entry all) h) (k + 1) d).block
    adjacent [] s k d lt = absurd (omega (arith, lt))
    adjacent (x ∷ es) s k d lt =
        let within : k + 1 < length (x ∷ es) = omega (arith, lt, length-map (x ∷ es) (told_entry all)) in
        let here = get_or-map (told_entry all) (x ∷ es) k x d (omega (arith, within)) in
        let next = get_or-map (told_entry all) (x ∷ es) (k + 1) x d within in
        let up = less_block (get_or (x ∷ es) k x) (get_or (x ∷ es) (k + 1) x) (sorted_before (x ∷ es) (k + 1) k x s within (omega arith)) in
        rw (here, next) up
