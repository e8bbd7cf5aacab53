-- What a call leaves of a store.
use Rattle.std.proofs.Common.{◌≡◌, inl, inr, ℕ, ◌<◌, ◌≤◌, true, false, List, [], ◌∷◌, ◌++◌, length, map, Option, Some, None, Ok, Err, Result, sym, ◌∙◌, ap, subst, arith}
use Rattle.std.specs.Prelude.{All, IfOk, is_some}
use Rattle.std.specs.List.{AllByRecursion}
use Rattle.std.specs.Option.{option_map}
use Rattle.std.specs.Result.{result_ok}
use Rattle.std.proofs.lemmas.Bool.{cases_lt}
use Rattle.std.proofs.lemmas.List.{get_or_past}
use Rattle.std.proofs.lemmas.List.Elements.{recursion_from_All}
use Rattle.quorum_rules.specs.Limits.{Numbers, IsValid}
use Rattle.wire_forms.specs.declared.op.Op.{Op}
use Rattle.protocol.specs.Instance.{setting}
use Rattle.protocol.specs.World.{Fits}
use Rattle.protocol.specs.Operations.{Outcome}
use Rattle.protocol.specs.Seen.{block_of, work_of}
use Rattle.disk_model.specs.Crash.{Pending, MayLeave}
use Rattle.version_disk.specs.declared.prune.Prune.{Prune}
use Rattle.batch_clients.specs.Batches.{Running, begun, end_of}
use Rattle.store_device.specs.Stores.{SeenStore, Nodes, IsSound, IsStore, IsFound, kept_in, seat_at, down_in, is_up}
use Rattle.store_device.specs.Told.{AreApart, IsTold}
use Rattle.store_device.specs.Going.{IsGoing, MayBegin}
use Rattle.store_device.specs.Calls.{HasPerformed, HaveEndedIf, StaysStore, prunes_of, told_each, with_room}
use Rattle.store_device.specs.Answered.{AreFew, IsEnough}
use Rattle.store_device.specs.Phased.{GoThrough}
use Rattle.store_device.proofs.Memory.{few_with, stays_with, through_with, with_memory}
use Rattle.store_device.proofs.Seats.{found_is_left}
use Rattle.store_device.proofs.Batches.{stored_all}
use Rattle.store_device.proofs.Carrying.{all_is_told, none_is_told}

module _ {D : Type 0} (pending : D → Pending) (seen : D → List ℕ) (moment : D → ℕ) (left_since : D → ℕ → List ℕ → Type 0)
    (old new : SeenStore D) (store : IsStore pending seen old) (count : length new.seats ≡ length old.seats)
    (ops : List Op) (runs : List Running) (going : IsGoing pending seen moment left_since old new ops runs) where
  past : (s : SeenStore D) (i : ℕ) → length s.seats ≡ old.config.n → old.config.n ≤ i → seat_at s i ≡ None
  past s i long l = get_or_past s.seats i None (omega arith)

  pub still_store : IsStore pending seen new
  still_store = record {
    valid = subst IsValid (sym going.config) store.valid;
    count = count ∙ store.count ∙ sym (ap (λ (c : Numbers). c.n) going.config);
    sound = λ i node there whole. elim (cases_lt i old.config.n) [
      | inl l ↦ subst (λ (c : Numbers). IsSound pending seen c i node) (sym going.config) ((going.seats i l).sound node there whole)
      | inr l ↦ absurd (let e = past new i (count ∙ store.count) l in let f : seat_at new i ≡ Some node = there in cc)
    ];
  }

  pub down_stays : (i : ℕ) → is_up (seat_at old i) ≡ false → seat_at new i ≡ seat_at old i
  down_stays i down = elim (cases_lt i old.config.n) [
    | inl l ↦ (going.seats i l).down down
    | inr l ↦ past new i (count ∙ store.count) l ∙ sym (past old i store.count l)
  ]

  -- ---- what the call was

  stays : StaysStore pending seen old new
  stays = record { store = still_store; config = going.config; down = down_stays }

  all_fit : (l : List Op) → AllByRecursion (MayBegin old.config) l
      → AllByRecursion (λ (op : Op). (block_of op < old.config.blocks) × Fits (setting old.config) (work_of op)) l
  all_fit [] may = tt
  all_fit (op ∷ l) may = ((may.0.there, may.0.fits), all_fit l may.1)

  module _ (counts_now : (disk : D) (t : ℕ) (bytes : List ℕ) → t ≤ moment disk → MayLeave (pending disk) bytes → left_since disk t bytes)
      (few : length ops ≤ 64) (may : All (MayBegin old.config) ops) (apart : AreApart ops) where
    -- where nothing is told, no operation is
    tells : {V E : Type 0} (items : V → List (Option Outcome)) (result : Result V E)
        → IfOk result (λ v. items v ≡ map (λ (r : Running). end_of r.stand) runs)
        → (gone kept : Nodes) → IsFound pending old new gone kept
        → IsTold old.config (down_in old) ops (told_each ops (option_map items (result_ok result)))
        (stored_all pending seen moment left_since old new 1 ops runs going.operations) (kept_in old gone) kept
    tells items (Ok v) are gone kept found =
        all_is_told pending seen moment left_since counts_now old new ops runs (items v) going are gone kept found
    tells items (Err e) are gone kept found =
        none_is_told pending seen moment left_since counts_now old new ops runs going gone kept
        (λ i l. found_is_left pending seen moment left_since old.config i counts_now (seat_at old i) (seat_at new i) (gone i) (kept i)
        (going.seats i l) (found i l))

    module _ (most : D → ℕ) where
      have_ended : {V E : Type 0} (items : V → List (Option Outcome)) (result : Result V E)
          → IfOk result (λ v. (after : List Running)
          × GoThrough pending seen most moment left_since old (begun (setting old.config) 1 ops) new after
          × (items v ≡ map (λ (r : Running). end_of r.stand) after))
          → IfOk result (λ v. AreFew old ops → IsEnough seen most (length ops) new
          → AllByRecursion (λ (o : Option Outcome). is_some o ≡ true) (items v))
          → (before after : List Prune)
          → HaveEndedIf pending seen most moment left_since ops (option_map items (result_ok result)) (with_memory before old) (with_memory after new)
      have_ended items (Ok v) gone_through answered before after = record {
        runs = gone_through.0;
        phases = through_with pending seen most moment left_since before gone_through.1;
        ends = gone_through.2;
        answered = λ few enough. answered (few_with before old ops few) enough;
      }
      have_ended items (Err e) gone_through answered before after = tt

      pub has_performed : {V E : Type 0} (items : V → List (Option Outcome)) (result : Result V E)
          → IfOk result (λ v. items v ≡ map (λ (r : Running). end_of r.stand) runs)
          → IfOk result (λ v. (after : List Running)
          × GoThrough pending seen most moment left_since old (begun (setting old.config) 1 ops) new after
          × (items v ≡ map (λ (r : Running). end_of r.stand) after))
          → IfOk result (λ v. AreFew old ops → IsEnough seen most (length ops) new
          → AllByRecursion (λ (o : Option Outcome). is_some o ≡ true) (items v))
          → (before after : List Prune)
          → after ≡ with_room (length ops) before ++ prunes_of ops (told_each ops (option_map items (result_ok result)))
          → HasPerformed pending seen most moment left_since ops (option_map items (result_ok result)) (with_memory before old) (with_memory after new)
      has_performed items result are gone_through answered before after remembered = record {
        batch = record { few = few; fit = all_fit ops (recursion_from_All (MayBegin old.config) ops may); apart = apart };
        stored = stored_all pending seen moment left_since old new 1 ops runs going.operations;
        told = tells items result are;
        any_moment = none_is_told pending seen moment left_since counts_now old new ops runs going;
        ended = have_ended items result gone_through answered before after;
        stays = stays_with pending seen before after old new stays;
        acknowledged = remembered;
      }
