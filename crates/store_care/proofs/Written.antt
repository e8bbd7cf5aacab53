-- A write more that was told of, or wasn't.
use Rattle.std.proofs.Common.{◌≡◌, ℕ, ◌+◌, ◌<◌, Bool, false, List, [], map, length, get_or, Option, is_none, add-one, refl, sym, ap, subst, ◌∙◌}
use Rattle.std.proofs.lemmas.List.{get_or-map}
use Rattle.protocol.specs.Operations.{Outcome}
use Rattle.store_device.specs.Stores.{SeenStore}
use Rattle.store_care.specs.Given.{block_at, outcome_at, written_by}
use Rattle.store_care.specs.Holdings.{newest_at}
use Rattle.store_care.specs.Tallies.{AreChanged, failed_writes, holds_again, one_more_if, with_restored, with_writes}
use Rattle.store_care.specs.Steps.{HasRestored, by_seat}
use Rattle.store_care.specs.declared.care.Care.{Care}
use Rattle.store_care.specs.declared.care.Lacking.{Lacking}
use Rattle.store_care.proofs.Changing.{then_changed, changed_alike, same_changed, noted_at, noted_length}

-- two lists that are alike by these are so at each place
pub pair_at : {S O X : Type 0} (f : S → List X) (h : O → List X) (ss : List S) (os : List O) (k : ℕ) (s : S) (o : O)
    → k < length ss → k < length os → s ≡ get_or ss k s → o ≡ get_or os k o → map f ss ≡ map h os → f s ≡ h o
pair_at {S} {O} {X} f h ss os k s o in_ss in_os is_s is_o are =
    ap f is_s ∙ sym (get_or-map f ss k s [] in_ss) ∙ ap (λ (xs : List (List X)). get_or xs k []) are ∙ get_or-map h os k o [] in_os ∙ ap h (sym is_o)

module _ {D : Type 0} (n : ℕ) (test : ℕ → ℕ → Bool) (last : SeenStore D) (lacking : Lacking) (told : List (Option Outcome)) where
  -- none was
  pub none_restored : (care : Care) → HasRestored n test last lacking told 0 care care
  none_restored care = record {
    tallies = same_changed (λ seat. with_writes test last lacking.again.items told seat 0) n care.tallies.items (λ seat t lt. refl);
    failed = refl;
  }

  pub one_more_restored : (k block : ℕ) (seats : List Bool) (start mid new : Care)
      → block ≡ block_at lacking.again.items k
      → seats ≡ by_seat n (λ seat. test seat block)
      → HasRestored n test last lacking told k start mid
      → new.failed ≡ one_more_if (is_none (written_by (outcome_at told k))) mid.failed
      → AreChanged (λ seat. with_restored (holds_again (get_or seats seat false) (written_by (outcome_at told k)) (newest_at last block seat))) (length seats) mid.tallies.items new.tallies.items
      → HasRestored n test last lacking told (k + 1) start new
  one_more_restored k block seats start mid new at are h failed changed =
      let ops = lacking.again.items in
      let stamp = written_by (outcome_at told k) in
      let f = λ (seat : ℕ). with_writes test last ops told seat k in
      let g = λ (seat : ℕ). with_restored (holds_again (test seat (block_at ops k)) stamp (newest_at last (block_at ops k) seat)) in
      let count : length seats ≡ n = noted_length (λ seat. test seat block) seats n are in
      let here : AreChanged g n mid.tallies.items new.tallies.items =
      changed_alike (λ seat. with_restored (holds_again (get_or seats seat false) stamp (newest_at last block seat))) g n mid.tallies.items new.tallies.items
      (λ seat t lt. ap (λ (b : Bool). with_restored (holds_again b stamp (newest_at last block seat)) t) (noted_at (λ seat. test seat block) seats n seat false are lt)
      ∙ ap (λ (b : ℕ). with_restored (holds_again (test seat b) stamp (newest_at last b seat)) t) at)
      (subst (λ (m : ℕ). AreChanged (λ seat. with_restored (holds_again (get_or seats seat false) stamp (newest_at last block seat))) m mid.tallies.items new.tallies.items) count changed) in
      record {
        tallies = changed_alike (λ seat t. g seat (f seat t)) (λ seat. with_writes test last ops told seat (k + 1)) n start.tallies.items new.tallies.items
            (λ seat t lt. sym (ap (λ (m : ℕ). with_writes test last ops told seat m t) (add-one k)))
            (then_changed f g n start.tallies.items mid.tallies.items new.tallies.items h.tallies here);
        failed = failed ∙ ap (one_more_if (is_none stamp)) h.failed ∙ sym (ap (λ (m : ℕ). failed_writes told m start.failed) (add-one k));
      }
