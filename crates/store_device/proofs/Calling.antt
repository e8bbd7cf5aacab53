-- What calls leave of a store, and what its nodes are found to keep.
use Rattle.std.proofs.Common.{◌≡◌, inl, inr, ℕ, ◌<◌, Bool, true, false, cond, not, List, [], ◌∷◌, Option, Some, None, refl, sym, ◌∙◌, ap, subst}
use Rattle.std.proofs.lemmas.Bool.{cases_Bool}
use Rattle.quorum_rules.specs.Limits.{Numbers}
use Rattle.disk_model.specs.Crash.{Pending, MayLeave}
use Rattle.disk_model.proofs.lemmas.Crash.{only_settled}
use Rattle.node_core.specs.Seen.{SeenNode, versions_in}
use Rattle.version_disk.specs.Held.{held}
use Rattle.version_disk.specs.Stored.{Stored}
use Rattle.store_device.specs.Stores.{SeenStore, Nodes, IsSound, IsStore, IsFound, IsFoundAt, kept_at, kept_in, seat_at, is_up}
use Rattle.store_device.specs.Lives.{KeepAlike}
use Rattle.store_device.specs.Calls.{Deed, HasDone, StaysStore, Leads, CallsGoOn, CallsKeepStores}
use Rattle.store_device.specs.Calls.Deed.{Performs, Prunes}
use Rattle.store_device.proofs.Seats.{when_true, when_false}

module _ (c : Numbers) where
  pub alike_back : (a b : Nodes) → KeepAlike c a b → KeepAlike c b a
  alike_back a b alike i block below = sym (alike i block below)

  pub alike_on : (a b d : Nodes) → KeepAlike c a b → KeepAlike c b d → KeepAlike c a d
  alike_on a b d one two i block below = one i block below ∙ two i block below

module _ {D : Type 0} (pending : D → Pending) (seen : D → List ℕ) (most : D → ℕ) (moment : D → ℕ) (left_since : D → ℕ → List ℕ → Type 0) where
  abbrev Does : Deed → SeenStore D → SeenStore D → Type 0
  Does deed old new = HasDone pending seen most moment left_since deed old new

  pub stays_by : (deed : Deed) (old new : SeenStore D) → Does deed old new → StaysStore pending seen old new
  stays_by (Performs ops told) old new done = done.stays
  stays_by (Prunes prunes) old new done = done.stays

  -- ---- calls after calls

  pub calls_go_on : CallsGoOn pending seen most moment left_since
  calls_go_on [] more old mid new first then = subst (λ (s : SeenStore D). Leads pending seen most moment left_since s more new) first then
  calls_go_on (call ∷ calls) more old mid new first then = (first.0, calls_go_on calls more call.store mid new first.1 then)

  pub calls_keep : CallsKeepStores pending seen most moment left_since
  calls_keep [] old new has led = record {
    store = subst (IsStore pending seen) (sym led) has;
    config = ap (λ (s : SeenStore D). s.config) led;
    down = λ i down. ap (λ (s : SeenStore D). seat_at s i) led;
  }
  calls_keep (call ∷ calls) old new has led =
      let one = stays_by call.deed old call.store led.0 in
      let rest = calls_keep calls call.store new one.store led.1 in
      record {
        store = rest.store;
        config = rest.config ∙ one.config;
        down = λ i down. rest.down i (ap is_up (one.down i down) ∙ down) ∙ one.down i down;
      }

module _ {D : Type 0} (pending : D → Pending) (seen : D → List ℕ) where
  found_at : (c : Numbers) (i : ℕ) (was is : Option (Stored D)) (gone kept : SeenNode)
      → ((node : Stored D) → is ≡ Some node → node.broken ≡ false → IsSound pending seen c i node)
      → (is_up was ≡ false → is_up is ≡ false) → IsFoundAt pending c i was is gone kept → kept_at is kept ≡ kept
  found_at c i was None gone kept sound down found = refl
  found_at c i was (Some node) gone kept sound down found = by_fault node.broken refl
    where
      at_seat : (seat : Option (Stored D)) → (is_up seat ≡ false → is_up (Some node) ≡ false) → IsFoundAt pending c i seat (Some node) gone kept → node.broken ≡ false → node.node ≡ kept
      at_seat None down found up = absurd (let e = down refl in cc)
      at_seat (Some was) down found up = of_fault was.broken refl
        where
          of_fault : (b : Bool) → was.broken ≡ b → node.node ≡ kept
          of_fault true e = absurd (let f = down (ap not e) in cc)
          of_fault false e =
              let left = subst (λ (b : Bool). cond b (kept ≡ gone) ((bytes : List ℕ) × MayLeave (pending node.disk) bytes × (kept ≡ held c i bytes))) e found in
              let is_sound = sound node refl up in
              let only = only_settled (seen node.disk) left.0 (subst (λ (p : Pending). MayLeave p left.0) is_sound.durable left.1) in
              sym (left.2 ∙ ap (held c i) only ∙ is_sound.state)

      by_fault : (b : Bool) → node.broken ≡ b → kept_at (Some node) kept ≡ kept
      by_fault true e = rw e refl
      by_fault false e = rw e (at_seat was down found e)

  -- where a store's nodes that are up are sound, what they are found to keep after a call is what a next call begins with
  pub found_is_kept : (old new : SeenStore D) (gone kept : Nodes)
      → IsStore pending seen new
      → new.config ≡ old.config
      → ((i : ℕ) → is_up (seat_at old i) ≡ false → is_up (seat_at new i) ≡ false)
      → IsFound pending old new gone kept
      → KeepAlike new.config (kept_in new kept) kept
  found_is_kept old new gone kept store config down found i block below =
      ap (λ (n : SeenNode). versions_in n block)
      (found_at new.config i (seat_at old i) (seat_at new i) (gone i) (kept i) (store.sound i) (down i)
      (subst (λ (c : Numbers). IsFoundAt pending c i (seat_at old i) (seat_at new i) (gone i) (kept i)) (sym config) (found i (subst (λ (c : Numbers). i < c.n) config below))))

  module _ (c : Numbers) (i : ℕ) where
    abbrev FoundAt : Option (Stored D) → Option (Stored D) → SeenNode → SeenNode → Type 0
    FoundAt was is gone kept = IsFoundAt pending c i was is gone kept

    abbrev SoundAt : Option (Stored D) → Type 0
    SoundAt seat = (n : Stored D) → seat ≡ Some n → n.broken ≡ false → IsSound pending seen c i n

    -- where nothing is done, a node is found to keep what it kept
    pub found_same : (seat : Option (Stored D)) (gone kept : SeenNode) → SoundAt seat → FoundAt seat seat gone kept → kept_at seat gone ≡ kept
    found_same None gone kept sound found = sym found
    found_same (Some n) gone kept sound found = elim (cases_Bool n.broken) [
      | inl broken ↦ ap (λ (b : Bool). cond b gone n.node) broken ∙ sym (when_true _ _ n.broken broken found)
      | inr whole ↦ (
          let s = sound n refl whole in
          let left = when_false _ _ n.broken whole found in
          let only = only_settled (seen n.disk) left.0 (subst (λ (p : Pending). MayLeave p left.0) s.durable left.1) in
          ap (λ (b : Bool). cond b gone n.node) whole ∙ sym (left.2 ∙ ap (held c i) only ∙ s.state))
    ]
