-- Calls of a store that go on, and what they asked.
use Rattle.std.proofs.Common.{◌≡◌, ℕ, ◌+◌, ◌-◌, ◌≤◌, List, [], ◌∷◌, ◌++◌, length, take, drop, map, refl, sym, ap, ◌∙◌, subst, arith, Option, Some, None, Result, Ok, Err, OnOk, take-append-drop}
use Rattle.std.specs.Bool.{⊤}
use Rattle.std.specs.Result.{IsErr}
use Rattle.std.specs.List.{AllByRecursion, zip}
use Rattle.std.proofs.lemmas.List.{append-nil, take_all}
use Rattle.std.proofs.lemmas.Grind.{flat_map-append}
use Rattle.std.proofs.Math.Seq.{take-add}
use Rattle.disk_model.specs.Crash.{Pending}
use Rattle.quorum_rules.specs.Limits.{Numbers}
use Rattle.wire_forms.specs.declared.op.Op.{Op}
use Rattle.wire_forms.specs.declared.op.Op.TheVariants.{Read, Write}
use Rattle.protocol.specs.Operations.{Outcome}
use Rattle.store_device.specs.Stores.{SeenStore}
use Rattle.store_device.specs.Calls.{Deed, Call, IsCall, Leads}
use Rattle.store_device.specs.Calls.Deed.{Performs}
use Rattle.store_front.specs.Asking.{asked_by, told_by, asked_in, told_in, IsFront, IsPerformed, IsHeard, AreAsked, AreHeard}
use Rattle.store_front.specs.Values.{found_with, written_with, found_in, written_in, write_of}

-- ---- lists
pub front_of : {X : Type 0} (xs : List X) → IsFront xs xs
front_of xs = ([], sym (append-nil xs))

pub front_taken : {X : Type 0} (xs : List X) (n : ℕ) → IsFront (take n xs) xs
front_taken xs n = (drop n xs, sym (take-append-drop n xs))

pub take_on : {X : Type 0} (xs : List X) (n m : ℕ) → n ≤ m → take m xs ≡ take n xs ++ take (m - n) (drop n xs)
take_on xs n m h = let e : m ≡ n + (m - n) = omega arith in ap (λ i. take i xs) e ∙ take-add n (m - n) xs

module _ {X : Type 0} (P : X → Type 0) where
  pub all_left : (xs ys : List X) → AllByRecursion P (xs ++ ys) → AllByRecursion P xs
  all_left [] ys h = tt
  all_left (x ∷ xs) ys h = (h.0, all_left xs ys h.1)

  pub all_then : (xs ys : List X) → AllByRecursion P xs → AllByRecursion P ys → AllByRecursion P (xs ++ ys)
  all_then [] ys h k = k
  all_then (x ∷ xs) ys h k = (h.0, all_then xs ys h.1 k)

  pub all_right : (xs ys : List X) → AllByRecursion P (xs ++ ys) → AllByRecursion P ys
  all_right [] ys h = h
  all_right (x ∷ xs) ys h = all_right xs ys h.1

-- nothing is to be shown where a call failed
pub none_ok : {T E : Type 0} (P : Type 0) (r : Result T E) → IsErr r → OnOk r P
none_ok P (Ok x) h = cc
none_ok P (Err e) h = tt

-- ---- what was told, one after the other
pub found_append : (c : Numbers) (old : List (ℕ × List ℕ)) (xs ys : List (Op × Option Outcome)) → found_in c old (xs ++ ys) ≡ found_in c (found_in c old xs) ys
found_append c old [] ys = refl
found_append c old (x ∷ xs) ys = found_append c (found_with c old x.0 x.1) xs ys

pub written_append : (old : List ℕ) (xs ys : List (Op × Option Outcome)) → written_in old (xs ++ ys) ≡ written_in (written_in old xs) ys
written_append old [] ys = refl
written_append old (x ∷ xs) ys = written_append (written_with old x.0 x.1) xs ys

-- ---- reads write nothing, and writes find nothing
abbrev Reads : Op → Type 0
Reads (Read k) = ⊤
Reads (Write k value) = ⊥

abbrev Writes : Op → Type 0
Writes (Read k) = ⊥
Writes (Write k value) = ⊤

reads_write_none : (old : List ℕ) (ops : List Op) (outcomes : List (Option Outcome)) → AllByRecursion Reads ops → written_in old (zip ops outcomes) ≡ old
reads_write_none old [] outcomes h = refl
reads_write_none old (op ∷ ops) [] h = refl
reads_write_none old (Read k ∷ ops) (o ∷ outcomes) h = reads_write_none old ops outcomes h.1
reads_write_none old (Write k value ∷ ops) (o ∷ outcomes) h = absurd h.0

writes_find_none : (c : Numbers) (old : List (ℕ × List ℕ)) (ops : List Op) (outcomes : List (Option Outcome)) → AllByRecursion Writes ops → found_in c old (zip ops outcomes) ≡ old
writes_find_none c old [] outcomes h = refl
writes_find_none c old (op ∷ ops) [] h = refl
writes_find_none c old (Read k ∷ ops) (o ∷ outcomes) h = absurd h.0
writes_find_none c old (Write k value ∷ ops) (o ∷ outcomes) h = writes_find_none c old ops outcomes h.1

reads_in : (ks : List ℕ) → AllByRecursion Reads (map Read ks)
reads_in [] = tt
reads_in (k ∷ ks) = (tt, reads_in ks)

writes_in : (es : List (ℕ × List ℕ)) → AllByRecursion Writes (map write_of es)
writes_in [] = tt
writes_in (e ∷ es) = (tt, writes_in es)

deed_writes_none : (old : List ℕ) (deed : Deed) → AllByRecursion Reads (asked_by deed) → written_in old (told_by deed) ≡ old
deed_writes_none old (Performs ops (Some outcomes)) h = reads_write_none old ops outcomes h
deed_writes_none old (Performs ops None) h = refl
deed_writes_none old deed h = refl

deed_finds_none : (c : Numbers) (old : List (ℕ × List ℕ)) (deed : Deed) → AllByRecursion Writes (asked_by deed) → found_in c old (told_by deed) ≡ old
deed_finds_none c old (Performs ops (Some outcomes)) h = writes_find_none c old ops outcomes h
deed_finds_none c old (Performs ops None) h = refl
deed_finds_none c old deed h = refl

module _ {D : Type 0} where
  calls_write_none : (old : List ℕ) (calls : List (Call D)) → AllByRecursion Reads (asked_in calls) → written_in old (told_in calls) ≡ old
  calls_write_none old [] h = refl
  calls_write_none old (call ∷ calls) h =
      written_append old (told_by call.deed) (told_in calls)
      ∙ ap (λ z. written_in z (told_in calls)) (deed_writes_none old call.deed (all_left Reads (asked_by call.deed) (asked_in calls) h))
      ∙ calls_write_none old calls (all_right Reads (asked_by call.deed) (asked_in calls) h)

  calls_find_none : (c : Numbers) (old : List (ℕ × List ℕ)) (calls : List (Call D)) → AllByRecursion Writes (asked_in calls) → found_in c old (told_in calls) ≡ old
  calls_find_none c old [] h = refl
  calls_find_none c old (call ∷ calls) h =
      found_append c old (told_by call.deed) (told_in calls)
      ∙ ap (λ z. found_in c z (told_in calls)) (deed_finds_none c old call.deed (all_left Writes (asked_by call.deed) (asked_in calls) h))
      ∙ calls_find_none c old calls (all_right Writes (asked_by call.deed) (asked_in calls) h)

  pub read_calls : (old : List ℕ) (calls : List (Call D)) (ks : List ℕ) → AreHeard (map Read ks) calls → written_in old (told_in calls) ≡ old
  read_calls old calls ks h = calls_write_none old calls (subst (AllByRecursion Reads) (sym h.all) (reads_in ks))

  pub write_calls : (c : Numbers) (old : List (ℕ × List ℕ)) (calls : List (Call D)) (es : List (ℕ × List ℕ)) → AreHeard (map write_of es) calls → found_in c old (told_in calls) ≡ old
  write_calls c old calls es h = calls_find_none c old calls (subst (AllByRecursion Writes) (sym h.all) (writes_in es))

-- ---- calls that asked for operations
deed_only : (deed : Deed) → IsHeard deed → IsPerformed deed
deed_only (Performs ops told) h = tt
deed_only deed h = absurd h

module _ {D : Type 0} where
  abbrev pub Performed : Call D → Type 0
  Performed call = IsPerformed call.deed

  abbrev pub Heard : Call D → Type 0
  Heard call = IsHeard call.deed

  pub heard_only : (calls : List (Call D)) → AllByRecursion Heard calls → AllByRecursion Performed calls
  heard_only [] h = tt
  heard_only (call ∷ calls) h = (deed_only call.deed h.0, heard_only calls h.1)

  pub heard_asked : (ops : List Op) (calls : List (Call D)) → AreHeard ops calls → AreAsked ops calls
  heard_asked ops calls h = record { front = subst (IsFront (asked_in calls)) h.all (front_of (asked_in calls)); only = heard_only calls h.heard }

-- ---- calls that go on
module _ {D : Type 0} (pending : D → Pending) (seen : D → List ℕ) (capacity : D → ℕ) (moment : D → ℕ) (left_since : D → ℕ → List ℕ → Type 0) where
  abbrev leads : SeenStore D → List (Call D) → SeenStore D → Type 0
  leads = Leads pending seen capacity moment left_since

  pub leads_then : (calls more : List (Call D)) (old mid new : SeenStore D) → leads old calls mid → leads mid more new → leads old (calls ++ more) new
  leads_then [] more old mid new h k = subst (λ s. leads s more new) h k
  leads_then (call ∷ calls) more old mid new h k = (h.0, leads_then calls more call.store mid new h.1 k)

  -- a call more
  pub leads_on : (calls : List (Call D)) (old mid : SeenStore D) (call : Call D) → leads old calls mid → IsCall pending seen capacity moment left_since mid call → leads old (calls ++ call ∷ []) call.store
  leads_on calls old mid call h k = leads_then calls (call ∷ []) old mid call.store h (k, refl)

  -- these operations were performed, up to so many, and what was told of them was heard
  pub record HasGone (c : Numbers) (old now : SeenStore D) (ops : List Op) (at : ℕ) (found found_now : List (ℕ × List ℕ)) (written written_now : List ℕ) : Type 0 where
    pub calls : List (Call D)
    pub leads_there : leads old calls now
    pub asked : asked_in calls ≡ take at ops
    pub heard : AllByRecursion Heard calls
    pub found_is : found_now ≡ found_in c found (told_in calls)
    pub written_is : written_now ≡ written_in written (told_in calls)

  pub begun : (c : Numbers) (store : SeenStore D) (ops : List Op) (found : List (ℕ × List ℕ)) (written : List ℕ) → HasGone c store store ops 0 found found written written
  begun c store ops found written = record { calls = []; leads_there = refl; asked = refl; heard = tt; found_is = refl; written_is = refl }

  module _ (c : Numbers) (old now : SeenStore D) (ops : List Op) (at end : ℕ) (found found_now : List (ℕ × List ℕ)) (written written_now : List ℕ)
      (h : HasGone c old now ops at found found_now written written_now) (order : at ≤ end) (batch : List Op) (is : batch ≡ take (end - at) (drop at ops)) where
    asked_on : (call : Call D) → asked_by call.deed ≡ batch → asked_in (h.calls ++ call ∷ []) ≡ take end ops
    asked_on call e =
        flat_map-append (λ (k : Call D). asked_by k.deed) h.calls (call ∷ [])
        ∙ ap (λ z. asked_in h.calls ++ z) (append-nil (asked_by call.deed) ∙ e ∙ is)
        ∙ ap (λ z. z ++ take (end - at) (drop at ops)) h.asked
        ∙ sym (take_on ops at end order)

    -- a batch more
    pub goes_on : (outcomes : List (Option Outcome)) (new : SeenStore D) (found_next : List (ℕ × List ℕ)) (written_next : List ℕ)
        → IsCall pending seen capacity moment left_since now (record { deed = Performs batch (Some outcomes); store = new })
        → found_next ≡ found_in c found_now (zip batch outcomes) → written_next ≡ written_in written_now (zip batch outcomes)
        → HasGone c old new ops end found found_next written written_next
    goes_on outcomes new found_next written_next is_call finds writes =
        let call : Call D = record { deed = Performs batch (Some outcomes); store = new } in
        let told : told_in (h.calls ++ call ∷ []) ≡ told_in h.calls ++ zip batch outcomes =
        flat_map-append (λ (k : Call D). told_by k.deed) h.calls (call ∷ []) ∙ ap (λ z. told_in h.calls ++ z) (append-nil (zip batch outcomes)) in
        record {
          calls = h.calls ++ call ∷ [];
          leads_there = leads_on h.calls old now call h.leads_there is_call;
          asked = asked_on call refl;
          heard = all_then Heard h.calls (call ∷ []) h.heard (tt, tt);
          found_is = finds ∙ ap (λ z. found_in c z (zip batch outcomes)) h.found_is ∙ sym (found_append c found (told_in h.calls) (zip batch outcomes)) ∙ ap (found_in c found) (sym told);
          written_is = writes ∙ ap (λ z. written_in z (zip batch outcomes)) h.written_is ∙ sym (written_append written (told_in h.calls) (zip batch outcomes)) ∙ ap (written_in written) (sym told);
        }

    -- a batch of which nothing is told, or heard
    pub cut_off : (told : Option (List (Option Outcome))) (new : SeenStore D) → IsCall pending seen capacity moment left_since now (record { deed = Performs batch told; store = new })
        → (calls : List (Call D)) × leads old calls new × AreAsked ops calls
    cut_off told new is_call =
        let call : Call D = record { deed = Performs batch told; store = new } in (
          h.calls ++ call ∷ [],
          leads_on h.calls old now call h.leads_there is_call,
          record {
            front = subst (λ z. IsFront z ops) (sym (asked_on call refl)) (front_taken ops end);
            only = all_then Performed h.calls (call ∷ []) (heard_only h.calls h.heard) (tt, tt);
          },
        )

  -- all of them
  module _ (c : Numbers) (old now : SeenStore D) (ops : List Op) (at : ℕ) (found found_now : List (ℕ × List ℕ)) (written written_now : List ℕ)
      (h : HasGone c old now ops at found found_now written written_now) (all : length ops ≤ at) where
    pub all_heard : AreHeard ops h.calls
    all_heard = record { all = h.asked ∙ take_all at ops all; heard = h.heard }
