-- The latest stamps that a store remembers, and pruning by them.
use Rattle.std.proofs.Common.{◌≡◌, ◌≢◌, inl, inr, ℕ, zero, suc, ◌+◌, ◌-◌, ◌*◌, ◌/◌, ◌<◌, ◌≤◌, min, Bool, true, false, cond, List, [], ◌∷◌, ◌++◌, filter, length, map, take, drop, get_or, Result, Ok, Err, IfOk, refl, sym, ◌∙◌, ap, subst, arith}
use Rattle.std.specs.Prelude.{All}
use Rattle.std.specs.List.{AllByRecursion, flat_map, slice_range}
use Rattle.std.specs.List.Sorted.{IsStrictlySortedBy}
use Rattle.std.specs.Map.{keys_of}
use Rattle.std.specs.Ordering.{nat_cmp, match_ordering}
use Rattle.std.specs.BTreeMap.{insert_entry}
use Rattle.std.specs.declared.cmp.Ordering.TheVariants.{Less, Equal, Greater}
use Rattle.std.proofs.lemmas.Cmp.{ranked}
use Rattle.std.proofs.lemmas.Grind.{flat_map-append}
use Rattle.std.proofs.lemmas.Bool.{cases_lt}
use Rattle.std.proofs.lemmas.List.{append-nil, take_all, length-map, length-take, length-drop, get_or-take, get_or-drop}
use Rattle.std.proofs.lemmas.List.Elements.{All-from_recursion, recursion_from_All}
use Rattle.std.proofs.lemmas.List.Kept.{AllPairs-cons}
use Rattle.std.proofs.lemmas.Map.Keys.{below_from_sorted}
use Rattle.std.proofs.Math.ListN.{get_or-map}
use Rattle.quorum_rules.specs.Limits.{Numbers}
use Rattle.stamp_order.specs.declared.Stamp.{Stamp}
use Rattle.disk_model.specs.Crash.{Pending}
use Rattle.version_disk.specs.declared.prune.Prune.{Prune}
use Rattle.store_device.specs.Stores.{SeenStore, AreOfDevice}
use Rattle.store_device.specs.Calls.{Acknowledged, Deed, Call, HasDone, IsStampOf, Leads, MayDo, MayDoAll, MayPrune, RemembersOnly, given_after}
use Rattle.store_device.specs.Calls.Deed.{Performs, Prunes}
use Rattle.store_device.specs.Seating.{ArePrunesApart, forgetting}
use Rattle.store_device.specs.Steps.{IsTended, WritesNone}
use Rattle.store_device.proofs.lemmas.Steps.{calls_tend, seats_tended, stamps_forgotten, tended_then}
use Rattle.store_care.specs.Pruning.{is_overfull}
use Rattle.store_care.specs.Remembered.{AreGroupsOf, HasPrunedRemembered, IsGroup, latest, prune_of, pruned_in, with_stamps}

-- what is said where it went well, of something else that follows
pub if_ok : {T E : Type 0} (P Q : T → Type 0) (r : Result T E) → ((x : T) → P x → Q x) → IfOk r P → IfOk r Q
if_ok P Q (Ok x) f p = f x p
if_ok P Q (Err x) f p = p

-- ---- the latest stamp of each block

module _ (P : Prune → Type 0) where
  -- what holds of the prunes of entries
  abbrev Hold : List (ℕ × Stamp) → Type 0
  Hold stamps = AllByRecursion (λ (e : ℕ × Stamp). P (prune_of e)) stamps

  hold_one : (stamps : List (ℕ × Stamp)) (block : ℕ) (stamp : Stamp) → P (prune_of (block, stamp)) → Hold stamps → Hold (insert_entry nat_cmp stamps block stamp)
  hold_one [] block stamp here all = (here, tt)
  hold_one (e ∷ stamps) block stamp here all =
      let more : Hold (insert_entry nat_cmp stamps block stamp) = hold_one stamps block stamp here all.1 in
      at (nat_cmp block e.0) refl more
    where
      at : (o : _) → o ≡ nat_cmp block e.0 → Hold (insert_entry nat_cmp stamps block stamp)
          → Hold (match_ordering o ((block, stamp) ∷ e ∷ stamps) ((e.0, stamp) ∷ stamps) (e ∷ insert_entry nat_cmp stamps block stamp))
      at Less is more = (here, all)
      at Equal is more = (subst (λ (b : ℕ). P (prune_of (b, stamp))) (ranked block e.0 Equal is) here, all.1)
      at Greater is more = (all.0, more)

  hold_all : (stamps : List (ℕ × Stamp)) (prunes : List Prune) → AllByRecursion P prunes → Hold stamps → Hold (with_stamps stamps prunes)
  hold_all stamps [] all has = has
  hold_all stamps (p ∷ prunes) all has = hold_all (insert_entry nat_cmp stamps p.block p.stamp) prunes all.1 (hold_one stamps p.block p.stamp all.0 has)

  as_prunes : (stamps : List (ℕ × Stamp)) → Hold stamps → AllByRecursion P (map prune_of stamps)
  as_prunes [] all = tt
  as_prunes (e ∷ stamps) all = (all.0, as_prunes stamps all.1)

  -- what holds of all prunes holds of the latest ones
  pub of_latest : (prunes : List Prune) → AllByRecursion P prunes → AllByRecursion P (latest prunes)
  of_latest prunes all = as_prunes (with_stamps [] prunes) (hold_all [] prunes all tt)

blocks_of : (stamps : List (ℕ × Stamp)) → map (λ (p : Prune). p.block) (map prune_of stamps) ≡ keys_of stamps
blocks_of [] = refl
blocks_of (e ∷ stamps) = ap (λ (l : List ℕ). e.0 ∷ l) (blocks_of stamps)

apart_from : (prunes : List Prune) → IsStrictlySortedBy nat_cmp (map (λ (p : Prune). p.block) prunes) → ArePrunesApart prunes
apart_from prunes h i j d low high same =
    let block = λ (p : Prune). p.block in
    let long : length (map block prunes) ≡ length prunes = length-map prunes block in
    let below = below_from_sorted (map block prunes) i j (block d) h low (omega (arith, long, high)) in
    let first : get_or (map block prunes) i (block d) ≡ block (get_or prunes i d) = get_or-map block prunes i d in
    let last : get_or (map block prunes) j (block d) ≡ block (get_or prunes j d) = get_or-map block prunes j d in
    omega (arith, below, first, last, same)

pub entries_apart : (prunes : List Prune) (stamps : List (ℕ × Stamp)) → prunes ≡ map prune_of stamps → IsStrictlySortedBy nat_cmp (keys_of stamps) → ArePrunesApart prunes
entries_apart prunes stamps is sorted =
    subst ArePrunesApart (sym is) (apart_from (map prune_of stamps) (subst (IsStrictlySortedBy nat_cmp) (sym (blocks_of stamps)) sorted))

-- ---- some of them

pub of_filter : (P : Prune → Type 0) (test : Prune → Bool) (prunes : List Prune) → AllByRecursion P prunes → AllByRecursion P (filter test prunes)
of_filter P test [] all = tt
of_filter P test (p ∷ prunes) all = at (test p) (of_filter P test prunes all.1)
  where
    at : (b : Bool) → AllByRecursion P (filter test prunes) → AllByRecursion P (cond b (p ∷ filter test prunes) (filter test prunes))
    at true rest = (all.0, rest)
    at false rest = rest

pub filter_apart : (test : Prune → Bool) (prunes : List Prune) → ArePrunesApart prunes → ArePrunesApart (filter test prunes)
filter_apart test [] apart = apart
filter_apart test (p ∷ prunes) apart =
    at (test p) (of_filter (λ (q : Prune). p.block ≢ q.block) test prunes (recursion_from_All (λ (q : Prune). p.block ≢ q.block) prunes first))
    (filter_apart test prunes rest)
  where
    first : All (λ (q : Prune). p.block ≢ q.block) prunes
    first k d within = apart 0 (suc k) d (omega arith) (omega (arith, within))

    rest : ArePrunesApart prunes
    rest i j d less within = apart (suc i) (suc j) d (omega (arith, less)) (omega (arith, within))

    at : (b : Bool) → AllByRecursion (λ (q : Prune). p.block ≢ q.block) (filter test prunes) → ArePrunesApart (filter test prunes)
        → ArePrunesApart (cond b (p ∷ filter test prunes) (filter test prunes))
    at true differ others = AllPairs-cons (λ (q r : Prune). q.block ≢ r.block) p (filter test prunes)
        (All-from_recursion (λ (q : Prune). p.block ≢ q.block) (filter test prunes) differ) others
    at false differ others = others

-- one more
pub one_stamp_more : (stamps : List (ℕ × Stamp)) (prunes : List Prune) (p : Prune)
    → with_stamps stamps (prunes ++ p ∷ []) ≡ insert_entry nat_cmp (with_stamps stamps prunes) p.block p.stamp
one_stamp_more stamps [] p = refl
one_stamp_more stamps (q ∷ prunes) p = one_stamp_more (insert_entry nat_cmp stamps q.block q.stamp) prunes p

-- ---- groups of prunes

-- parts of lists
none : {A : Type 0} (n : ℕ) → take {A = A} n [] ≡ []
none zero = refl
none (suc n) = refl

both : {A : Type 0} (xs : List A) (k n : ℕ) → take k xs ++ take n (drop k xs) ≡ take (k + n) xs
both xs zero n = ap (λ (m : ℕ). take m xs) (omega arith)
both [] (suc k) n = none n ∙ sym (none (suc k + n))
both (x ∷ xs) (suc k) n =
    let next : suc (k + n) ≡ suc k + n = omega arith in
    ap (λ (l : List _). x ∷ l) (both xs k n) ∙ ap (λ (m : ℕ). take m (x ∷ xs)) next

-- as many as there are
cut : {A : Type 0} (xs : List A) (n : ℕ) → take (min (length xs) n) xs ≡ take n xs
cut xs n = elim (cases_lt n (length xs)) [
  | inl lt ↦ ap (λ (m : ℕ). take m xs) (omega (arith, lt))
  | inr le ↦ ap (λ (m : ℕ). take m xs) (omega (arith, le)) ∙ take_all (length xs) xs (omega arith) ∙ sym (take_all n xs le)
]

part_of : (P : Prune → Type 0) (xs ys : List Prune) → AllByRecursion P (xs ++ ys) → AllByRecursion P xs × AllByRecursion P ys
part_of P [] ys all = (tt, all)
part_of P (x ∷ xs) ys all = let rest = part_of P xs ys all.1 in ((all.0, rest.0), rest.1)

-- a part of a list
long_slice : {A : Type 0} (xs : List A) (at end : ℕ) → end ≤ length xs → length (slice_range xs at end) ≡ end - at
long_slice xs at end h = omega (arith, length-take (end - at) (drop at xs), length-drop at xs, h)

in_slice : {A : Type 0} (xs : List A) (at end k : ℕ) (d : A) → k < end - at → get_or (slice_range xs at end) k d ≡ get_or xs (at + k) d
in_slice xs at end k d h = get_or-take (end - at) (drop at xs) k d h ∙ get_or-drop at xs k d

pub all_slice : {A : Type 0} (P : A → Type 0) (xs : List A) (at end : ℕ) → end ≤ length xs → All P xs → All P (slice_range xs at end)
all_slice P xs at end within h k d high =
    let long = long_slice xs at end within in
    subst P (sym (in_slice xs at end k d (omega (arith, long, high)))) (h (at + k) d (omega (arith, long, high, within)))

pub apart_slice : (prunes : List Prune) (at end : ℕ) → end ≤ length prunes → ArePrunesApart prunes → ArePrunesApart (slice_range prunes at end)
apart_slice prunes at end within h i j d low high =
    let long = long_slice prunes at end within in
    let block = λ (p : Prune). p.block in
    let first = in_slice prunes at end i d (omega (arith, long, low, high)) in
    let last = in_slice prunes at end j d (omega (arith, long, high)) in
    λ same. h (at + i) (at + j) d (omega (arith, low)) (omega (arith, long, high, within)) (sym (ap block first) ∙ same ∙ ap block last)

module _ {D : Type 0} where
  abbrev pub pruned_by : Call D → List Prune
  pruned_by call = pruned_in call.deed

  abbrev pub Group : Call D → Type 0
  Group call = IsGroup call.deed

  all_more : (calls : List (Call D)) (call : Call D) → AllByRecursion Group calls → Group call → AllByRecursion Group (calls ++ call ∷ [])
  all_more [] call all one = (one, tt)
  all_more (c ∷ calls) call all one = (all.0, all_more calls call all.1 one)

  -- groups of the first prunes, so many of them
  pub record AreFirst (prunes : List Prune) (group : ℕ) (calls : List (Call D)) : Type 0 where
    pub groups : AllByRecursion Group calls
    pub all : flat_map pruned_by calls ≡ take (group * 64) prunes
    pub count : length calls ≡ group

  pub none_first : (prunes : List Prune) → AreFirst prunes 0 []
  none_first prunes = record { groups = tt; all = refl; count = refl }

  pub first_more : (prunes : List Prune) (group first end : ℕ) (calls : List (Call D)) (store : SeenStore D)
      → group * 64 < length prunes → first ≡ group * 64 → end ≡ first + min 64 (length prunes - first)
      → AreFirst prunes group calls → AreFirst prunes (group + 1) (calls ++ record { deed = Prunes (slice_range prunes first end); store = store } ∷ [])
  first_more prunes group first end calls store more at ends are =
      let call : Call D = record { deed = Prunes (slice_range prunes first end); store = store } in
      let long : length (slice_range prunes first end) ≡ end - first = long_slice prunes first end (omega (arith, more, at, ends)) in
      let group_is : IsGroup (Prunes (slice_range prunes first end)) = omega (arith, long, ends) in
      let upto : first + (end - first) ≡ min (length prunes) ((group + 1) * 64) = omega (arith, more, at, ends) in
      record {
        groups = all_more calls call are.groups group_is;
        all = flat_map-append pruned_by calls (call ∷ [])
            ∙ ap (λ (l : List Prune). flat_map pruned_by calls ++ l) (append-nil (slice_range prunes first end))
            ∙ ap (λ (l : List Prune). l ++ slice_range prunes first end) (are.all ∙ ap (λ (n : ℕ). take n prunes) (sym at))
            ∙ both prunes first (end - first) ∙ ap (λ (n : ℕ). take n prunes) upto ∙ cut prunes ((group + 1) * 64);
        count = more_calls calls call ∙ ap (λ (n : ℕ). n + 1) are.count;
      }
    where
      more_calls : (calls : List (Call D)) (call : Call D) → length (calls ++ call ∷ []) ≡ length calls + 1
      more_calls [] call = refl
      more_calls (c ∷ calls) call = let rest = more_calls calls call in omega (arith, rest)

  pub are_groups : (prunes : List Prune) (calls : List (Call D)) (group : ℕ) → group ≡ (length prunes + 63) / 64 → AreFirst prunes group calls → AreGroupsOf prunes calls
  are_groups prunes calls group is are = record {
    groups = are.groups;
    all = are.all ∙ take_all (group * 64) prunes (omega (arith, is));
    count = are.count ∙ is;
  }

  -- ---- what pruning by remembered stamps does to a store

  may_groups : (calls : List (Call D)) (given : Acknowledged) → AllByRecursion Group calls → MayPrune given (flat_map pruned_by calls) → MayDoAll given calls
  may_groups [] given all may = tt
  may_groups (call ∷ calls) given all may =
      let parts = part_of (λ (p : Prune). IsStampOf (given p.block) p.stamp) (pruned_by call) (flat_map pruned_by calls) may in
      at call.deed all.0 parts.0 parts.1 (λ other. may_groups calls other all.1)
    where
      at : (deed : Deed) → IsGroup deed → MayPrune given (pruned_in deed) → MayPrune given (flat_map pruned_by calls)
          → ((other : Acknowledged) → MayPrune other (flat_map pruned_by calls) → MayDoAll other calls) → MayDo given deed × MayDoAll (given_after given deed) calls
      at (Performs ops told) one mine others rest = absurd one
      at (Prunes prunes) one mine others rest = (mine, rest (given_after given (Prunes prunes)) others)

  none_written : (calls : List (Call D)) → AllByRecursion Group calls → AllByRecursion (λ (call : Call D). WritesNone call.deed) calls
  none_written [] all = tt
  none_written (call ∷ calls) all = (at call.deed all.0, none_written calls all.1)
    where
      at : (deed : Deed) → IsGroup deed → WritesNone deed
      at (Performs ops told) one = absurd one
      at (Prunes prunes) one = tt

module _ {D : Type 0} (pending : D → Pending) (seen : D → List ℕ) (capacity : D → ℕ) (moment : D → ℕ) (left_since : D → ℕ → List ℕ → Type 0) where
  -- one call more
  pub led_more : (old mid new : SeenStore D) (calls : List (Call D)) (deed : Deed) → Leads pending seen capacity moment left_since old calls mid
      → HasDone pending seen capacity moment left_since deed mid new
      → Leads pending seen capacity moment left_since old (calls ++ record { deed = deed; store = new } ∷ []) new
  led_more old mid new [] deed led done = (subst (λ (s : SeenStore D). HasDone pending seen capacity moment left_since deed s new) led done, refl)
  led_more old mid new (call ∷ calls) deed led done = (led.0, led_more call.store mid new calls deed led.1 done)

  pub remembered_tends : (most : ℕ) (old new : SeenStore D) → HasPrunedRemembered pending seen capacity moment left_since most old new
      → IsTended pending seen capacity moment left_since old new
  remembered_tends most old new did =
      tended_then pending seen capacity moment left_since old did.last new
      (calls_tend pending seen capacity moment left_since old did.last did.calls did.led
      (λ given knows. may_groups did.calls given did.pruned.groups
      (subst (MayPrune given) (sym did.pruned.all)
      (of_filter (λ (p : Prune). IsStampOf (given p.block) p.stamp) (λ p. is_overfull old most p.block) (latest old.acknowledged)
      (of_latest (λ (p : Prune). IsStampOf (given p.block) p.stamp) old.acknowledged knows))))
      (none_written did.calls did.pruned.groups))
      (seats_tended pending seen capacity moment left_since did.last new (stamps_forgotten pending seen did.last new did.forgot))
