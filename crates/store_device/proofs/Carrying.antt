-- A call of a store, from its beginning to what it tells.
use Rattle.std.proofs.Common.{◌≡◌, ℕ, ◌≤◌, List, ◌++◌, length, map, take, drop, Option, Ok, Err, Result, refl, sym, ◌∙◌, ap, subst}
use Rattle.std.specs.Prelude.{All, IfOk, OnOk}
use Rattle.std.specs.Result.{IsErr}
use Rattle.std.proofs.lemmas.List.{length-map}
use Rattle.std.proofs.lemmas.List.Elements.{recursion_from_All}
use Rattle.std.proofs.Math.Seq.{take-append_seam}
use Rattle.quorum_rules.specs.Limits.{Numbers}
use Rattle.wire_forms.specs.declared.op.Op.{Op}
use Rattle.protocol.specs.Messages.{Reply}
use Rattle.protocol.specs.Instance.{setting}
use Rattle.protocol.specs.Operations.{Outcome}
use Rattle.disk_model.specs.Crash.{Pending, MayLeave}
use Rattle.version_disk.specs.Stored.{Stored}
use Rattle.batch_clients.specs.Batches.{Running, asks_to, begun, end_of, after_answers}
use Rattle.store_device.specs.Stores.{SeenStore, Nodes, IsStore, IsFound, IsLeft, kept_in, down_in}
use Rattle.store_device.specs.Told.{AreApart, IsTold, untold}
use Rattle.store_device.specs.Working.{AreHanded}
use Rattle.store_device.specs.Going.{IsGoing, MayBegin, store_of}
use Rattle.store_device.specs.Answered.{HaveReplied}
use Rattle.store_device.specs.Phased.{GoThrough}
use Rattle.store_device.specs.Phased.GoThrough.{at_once, one_more}
use Rattle.store_device.proofs.Batches.{stored_all, cut_off_now, told_as_ended, has_started}
use Rattle.store_device.proofs.Handing.{phase_goes_on}

module _ {D : Type 0} (pending : D → Pending) (seen : D → List ℕ) (moment : D → ℕ) (left_since : D → ℕ → List ℕ → Type 0) where
  -- the operations of a call that stand there between these seats stand here between those
  abbrev pub GoFrom : Numbers → (first : List (Option (Stored D))) → List Running → (last : List (Option (Stored D))) → List Running
      → Type 0
  GoFrom c first runs last then =
      (start : SeenStore D) (ops : List Op) → AreApart ops → IsGoing pending seen moment left_since start (store_of c first) ops runs
      → IsGoing pending seen moment left_since start (store_of c last) ops then

  module _ (counts_now : (disk : D) (t : ℕ) (bytes : List ℕ) → t ≤ moment disk → MayLeave (pending disk) bytes → left_since disk t bytes) where
    pub go_more : (c : Numbers) (first mid last : List (Option (Stored D))) (runs now : List Running)
        (answers : List (Option (List Reply))) → GoFrom c first runs mid now
        → AreHanded pending seen moment left_since (λ i. asks_to (setting c) i now) answers (store_of c mid) (store_of c last)
        → GoFrom c first runs last (after_answers (setting c) 0 answers now)
    go_more c first mid last runs now answers so_far handed start ops apart going =
        phase_goes_on pending seen moment left_since counts_now c start (store_of c mid) (store_of c last) ops now answers refl apart
        (so_far start ops apart going) handed

    -- what is told after a call
    pub all_is_told : (old new : SeenStore D) (ops : List Op) (runs : List Running) (ends : List (Option Outcome))
        (going : IsGoing pending seen moment left_since old new ops runs) → ends ≡ map (λ (r : Running). end_of r.stand) runs
        → (gone kept : Nodes) → IsFound pending old new gone kept
        → IsTold old.config (down_in old) ops ends
        (stored_all pending seen moment left_since old new 1 ops runs going.operations) (kept_in old gone) kept
    all_is_told old new ops runs ends going are gone kept found =
        subst (λ (l : List (Option Outcome)). IsTold old.config (down_in old) ops l
        (stored_all pending seen moment left_since old new 1 ops runs going.operations) (kept_in old gone) kept) (sym are)
        (told_as_ended pending seen moment left_since old new counts_now gone kept ops runs going found)

    pub none_is_told : (old new : SeenStore D) (ops : List Op) (runs : List Running)
        (going : IsGoing pending seen moment left_since old new ops runs)
        → (gone kept : Nodes) → IsLeft moment left_since old new gone kept
        → IsTold old.config (down_in old) ops (untold ops)
        (stored_all pending seen moment left_since old new 1 ops runs going.operations) (kept_in old gone) kept
    none_is_told old new ops runs going gone kept left =
        cut_off_now pending seen moment left_since old new counts_now gone kept ops runs going left

  pub starts : ((disk : D) (bytes : List ℕ) → left_since disk (moment disk) bytes → MayLeave (pending disk) bytes)
      → (start : SeenStore D) → IsStore pending seen start
      → (ops : List Op) → length ops ≤ 64 → All (MayBegin start.config) ops
      → IsGoing pending seen moment left_since start start ops (begun (setting start.config) 1 ops)
  starts only_now start store ops few may = has_started pending seen moment left_since only_now start store ops
      few (recursion_from_All (MayBegin start.config) ops may)

  -- the operations that a batch began
  pub from_batch : (c d : Numbers) (seats : List (Option (Stored D))) (ops : List Op) (runs : List Running) → d ≡ c
      → runs ≡ begun (setting c) 1 ops
      → IsGoing pending seen moment left_since (store_of c seats) (store_of c seats) ops (begun (setting c) 1 ops)
      → IsGoing pending seen moment left_since (store_of c seats) (store_of d seats) ops runs
  from_batch c d seats ops runs same are going =
      subst (λ (e : Numbers). IsGoing pending seen moment left_since (store_of c seats) (store_of e seats) ops runs) (sym same)
      (subst (λ (rs : List Running). IsGoing pending seen moment left_since (store_of c seats) (store_of c seats) ops rs) (sym are) going)

  pub to_store : (c d : Numbers) (start : SeenStore D) (last : List (Option (Stored D))) (ops : List Op) (runs : List Running) → d ≡ c
      → IsGoing pending seen moment left_since start (store_of d last) ops runs
      → IsGoing pending seen moment left_since start (store_of c last) ops runs
  to_store c d start last ops runs same going = subst (λ (e : Numbers). IsGoing pending seen moment left_since start (store_of e last) ops
      runs) same going

  -- a store whose seats were lent to a call, and put back
  module _ {X : Type 0} (node : X → Option (Stored D)) (c : Numbers) (value : SeenStore D) (items first new : List X) (len : ℕ)
      (lent : first ≡ items) (is : store_of c (map node items) ≡ value) (long : length first ≡ len) (count : length new ≡ length first)
    where
      pub back : take len (new ++ drop (length new) items) ≡ new
      back = ap (λ (n : ℕ). take n (new ++ drop (length new) items)) (sym long ∙ sym count) ∙ take-append_seam new (drop (length new) items)

      pub lent_is : store_of c (map node first) ≡ value
      lent_is = ap (λ (l : List X). store_of c (map node l)) lent ∙ is

      pub put_back : (ops : List Op) (runs : List Running)
          → IsGoing pending seen moment left_since (store_of c (map node first)) (store_of c (map node new)) ops runs
          → IsGoing pending seen moment left_since value (store_of c (map node (take len (new ++ drop (length new) items)))) ops runs
      put_back ops runs going =
          subst (λ (start : SeenStore D). IsGoing pending seen moment left_since start
          (store_of c (map node (take len (new ++ drop (length new) items)))) ops runs)
          (ap (λ (l : List X). store_of c (map node l)) lent ∙ is)
          (subst (λ (l : List X). IsGoing pending seen moment left_since (store_of c (map node first)) (store_of c (map node l)) ops runs)
          (sym back) going)

      pub put_count : length (map node (take len (new ++ drop (length new) items))) ≡ length value.seats
      put_count = length-map (take len (new ++ drop (length new) items)) node ∙ ap length back ∙ count ∙ ap length lent
          ∙ sym (length-map items node) ∙ ap (λ (s : SeenStore D). length s.seats) is

-- the phases of a call, between the seats that were lent to it
module _ {D : Type 0} (pending : D → Pending) (seen : D → List ℕ) (most : D → ℕ) (moment : D → ℕ) (left_since : D → ℕ → List ℕ → Type 0) where
  pub none_gone : (c : Numbers) (seats : List (Option (Stored D))) (runs : List Running)
      → GoThrough pending seen most moment left_since (store_of c seats) runs (store_of c seats) runs
  none_gone c seats runs = at_once

  pub one_phase : (c : Numbers) (first mid last : List (Option (Stored D))) (runs now then : List Running) (answers : List (Option (List Reply)))
      → then ≡ after_answers (setting c) 0 answers now
      → GoThrough pending seen most moment left_since (store_of c first) runs (store_of c mid) now
      → AreHanded pending seen moment left_since (λ i. asks_to (setting c) i now) answers (store_of c mid) (store_of c last)
      → HaveReplied seen most (λ i. asks_to (setting c) i now) answers (store_of c mid) (store_of c last)
      → GoThrough pending seen most moment left_since (store_of c first) runs (store_of c last) then
  one_phase c first mid last runs now then answers next so_far handed replied =
      subst (λ (rs : List Running). GoThrough pending seen most moment left_since (store_of c first) runs (store_of c last) rs) (sym next)
      (one_more so_far handed replied)

  -- where the operations are those that a batch began
  pub from_begun : (c d : Numbers) (first last : List (Option (Stored D))) (ops : List Op) (runs then : List Running) → d ≡ c
      → runs ≡ begun (setting c) 1 ops
      → GoThrough pending seen most moment left_since (store_of d first) runs (store_of d last) then
      → GoThrough pending seen most moment left_since (store_of c first) (begun (setting c) 1 ops) (store_of c last) then
  from_begun c d first last ops runs then same are through =
      subst (λ (rs : List Running). GoThrough pending seen most moment left_since (store_of c first) rs (store_of c last) then) are
      (subst (λ (e : Numbers). GoThrough pending seen most moment left_since (store_of e first) runs (store_of e last) then) same through)

  -- where the seats are a store's
  pub in_store : (c : Numbers) (value : SeenStore D) (first back last : List (Option (Stored D))) (ops : List Op) (then : List Running)
      → store_of c first ≡ value → back ≡ last
      → GoThrough pending seen most moment left_since (store_of c first) (begun (setting c) 1 ops) (store_of c last) then
      → GoThrough pending seen most moment left_since value (begun (setting value.config) 1 ops) (store_of c back) then
  in_store c value first back last ops then is same through =
      subst (λ (s : SeenStore D). GoThrough pending seen most moment left_since s (begun (setting s.config) 1 ops) (store_of c back) then) is
      (subst (λ (l : List (Option (Stored D))). GoThrough pending seen most moment left_since (store_of c first) (begun (setting c) 1 ops)
      (store_of c l) then) (sym same) through)

-- where a call gives an error, nothing is said of a value
pub on_err : {T E : Type 0} (P : Type 0) (r : Result T E) → IsErr r → OnOk r P
on_err P (Ok x) e = absurd cc
on_err P (Err x) e = tt

pub if_err : {T E : Type 0} (P : T → Type 0) (r : Result T E) → IsErr r → IfOk r P
if_err P (Ok x) e = absurd cc
if_err P (Err x) e = tt

pub if_ok : {T E : Type 0} (P Q : T → Type 0) (r : Result T E) → ((x : T) → P x → Q x) → IfOk r P → IfOk r Q
if_ok P Q (Ok x) f p = f x p
if_ok P Q (Err x) f p = p

pub on_ok_and : {T E : Type 0} (P Q : Type 0) (r : Result T E) → OnOk r P → Q → OnOk r (P × Q)
on_ok_and P Q (Ok x) p q = (p, q)
on_ok_and P Q (Err x) p q = tt

pub on_ok_then : {T E : Type 0} (P Q : Type 0) (r : Result T E) → (P → Q) → OnOk r P → OnOk r Q
on_ok_then P Q (Ok x) f p = f p
on_ok_then P Q (Err x) f p = tt
