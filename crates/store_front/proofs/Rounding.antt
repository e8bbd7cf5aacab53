-- Blocks of the requests of a round.
use Rattle.std.proofs.Common.{◌≡◌, ◌≢◌, ℕ, zero, suc, ◌+◌, ◌-◌, ◌<◌, ◌≤◌, Bool, true, false, if◌then◌else◌, List, [], ◌∷◌, ◌++◌, length, map, take, drop, refl, sym, ap, ◌∙◌, subst, arith}
use Rattle.std.specs.Int.{w32, from_be_bytes}
use Rattle.std.specs.List.{All, AllByRecursion, concat, filter, flat_map, range_with_len}
use Rattle.std.specs.Ordering.{nat_cmp, match_ordering}
use Rattle.std.specs.declared.cmp.Ordering.TheVariants.{Less, Equal, Greater}
use Rattle.std.specs.BTreeSet.{insert_key}
use Rattle.std.proofs.lemmas.List.{append-nil, take-take, drop-take, length-take, map-append}
use Rattle.std.proofs.lemmas.List.Elements.{filter-append, All-from_recursion}
use Rattle.std.proofs.lemmas.List.Folds.{concat-append}
use Rattle.std.proofs.lemmas.Grind.{flat_map-append}
use Rattle.std.proofs.Math.Seq.{take-add}
use Rattle.quorum_rules.specs.Limits.{Numbers}
use Rattle.block_device.proofs.lemmas.Touching.{range_more}
use Rattle.nbd_front.specs.declared.request.Request.{Request}
use Rattle.nbd_front.specs.Requests.{magic_of, request_of, fields_of, head_len, data_len}
use Rattle.nbd_front.specs.Sessions.{leave_kind, IsRequest}
use Rattle.store_front.specs.declared.round.Asked.{Asked}
use Rattle.store_front.specs.declared.standing.Standing.TheVariants.{Whole}
use Rattle.store_front.specs.Standings.{IsStanding}
use Rattle.store_front.specs.Blocks.{first_of, end_of}
use Rattle.store_front.specs.Rounds.{bytes_of, requests_of, blocks_read, needs, needed, with_blocks}

pub with_append : (old xs ys : List ℕ) → with_blocks old (xs ++ ys) ≡ with_blocks (with_blocks old xs) ys
with_append old [] ys = refl
with_append old (x ∷ xs) ys = with_append (insert_key nat_cmp old x) xs ys

-- the walk over the blocks of a request comes one block further
pub one_more : (test : ℕ → Bool) (old now new : List ℕ) (first k : ℕ) → first ≤ k
    → now ≡ with_blocks old (filter test (range_with_len first (k - first)))
    → new ≡ (if test k then insert_key nat_cmp now k else now)
    → new ≡ with_blocks old (filter test (range_with_len first (k + 1 - first)))
one_more test old now new first k low before here =
    let longer : k + 1 - first ≡ (k - first) + 1 = omega arith in
    let place : first + (k - first) ≡ k = omega arith in
    let front = filter test (range_with_len first (k - first)) in
    let cases : (b : Bool) → test k ≡ b → new ≡ (if b then insert_key nat_cmp now k else now) → with_blocks now (filter test (k ∷ [])) ≡ new = λ b. elim b as (λ b. test k ≡ b → new ≡ (if b then insert_key nat_cmp now k else now) → with_blocks now (filter test (k ∷ [])) ≡ new) [
      | true ↦ λ e h. rw e (sym h)
      | false ↦ λ e h. rw e (sym h)
    ] in
    sym (ap (λ n. with_blocks old (filter test (range_with_len first n))) longer
    ∙ ap (λ ks. with_blocks old (filter test ks)) (range_more first (k - first) k place)
    ∙ ap (with_blocks old) (filter-append test (range_with_len first (k - first)) (k ∷ []))
    ∙ with_append old front (filter test (k ∷ []))
    ∙ ap (λ z. with_blocks z (filter test (k ∷ []))) (sym before)
    ∙ cases (test k) refl here)

-- ---- requests at the front of the input
pub whole_request : (r : Request) (xs : List ℕ) → IsStanding (Whole r) xs → IsRequest (take (head_len + data_len r) xs) × (r ≡ request_of (take (head_len + data_len r) xs))
whole_request r xs h =
    let n = head_len + data_len r in
    let magic : magic_of (take n xs) ≡ magic_of xs = ap (λ bs. from_be_bytes w32 bs) (take-take 4 n xs (omega arith)) in
    let more : 4 + (24 + data_len r) ≡ n = omega arith in
    let behind : drop 4 (take n xs) ≡ take (24 + data_len r) (drop 4 xs) = ap (λ m. drop 4 (take m xs)) (sym more) ∙ drop-take 4 (24 + data_len r) xs in
    let head : take 24 (drop 4 (take n xs)) ≡ take 24 (drop 4 xs) = ap (take 24) behind ∙ take-take 24 (24 + data_len r) (drop 4 xs) (omega arith) in
    let same : request_of (take n xs) ≡ request_of xs = ap fields_of head in
    let is : r ≡ request_of (take n xs) = h.2 ∙ sym same in
    let size : length (take n xs) ≡ n = omega (arith, length-take n xs, h.0) in (
      record {
        magic = magic ∙ h.1;
        size = size ∙ ap (λ q. head_len + data_len q) is;
        stays = subst (λ (q : Request). q.kind ≢ leave_kind) is h.3;
      },
      is,
    )

-- one more of them
pub take_to : (input : List ℕ) (len end : ℕ) → len ≤ end → take end input ≡ take len input ++ take (end - len) (drop len input)
take_to input len end h = let e : end ≡ len + (end - len) = omega arith in ap (λ n. take n input) e ∙ take-add len (end - len) input

pub one_request : (input : List ℕ) (asked : List Asked) (next : Asked) (len end : ℕ) → len ≤ end
    → take len input ≡ concat (map bytes_of asked) → next.bytes.now ≡ take (end - len) (drop len input)
    → take end input ≡ concat (map bytes_of (asked ++ next ∷ []))
one_request input asked next len end order before here =
    let last : take (end - len) (drop len input) ≡ concat (map bytes_of (next ∷ [])) = sym here ∙ sym (append-nil next.bytes.now) in
    take_to input len end order
    ∙ ap (λ z. z ++ take (end - len) (drop len input)) before
    ∙ ap (λ z. concat (map bytes_of asked) ++ z) last
    ∙ sym (concat-append (map bytes_of asked) (map bytes_of (next ∷ [])))
    ∙ ap concat (sym (map-append bytes_of asked (next ∷ [])))

pub one_touched : (c : Numbers) (asked : List Asked) (next : Asked) (old new : List ℕ)
    → old ≡ blocks_read c (requests_of asked) → new ≡ with_blocks old (needed c (request_of next.bytes.now))
    → new ≡ blocks_read c (requests_of (asked ++ next ∷ []))
one_touched c asked next old new before here =
    let f : List ℕ → List ℕ = λ bytes. needed c (request_of bytes) in
    let bytes = next.bytes.now in
    here
    ∙ ap (λ z. with_blocks z (f bytes)) before
    ∙ sym (with_append [] (flat_map f (requests_of asked)) (f bytes))
    ∙ ap (λ z. with_blocks [] (flat_map f (requests_of asked) ++ z)) (sym (append-nil (f bytes)))
    ∙ ap (with_blocks []) (sym (flat_map-append f (requests_of asked) (bytes ∷ [])))
    ∙ ap (λ z. with_blocks [] (flat_map f z)) (sym (map-append bytes_of asked (next ∷ [])))

-- ---- blocks that are read are the cluster's
module _ (P : ℕ → Type 0) where
  all_insert : (ks : List ℕ) (k : ℕ) → AllByRecursion P ks → P k → AllByRecursion P (insert_key nat_cmp ks k)
  all_insert [] k h here = (here, tt)
  all_insert (x ∷ xs) k h here =
      let more = all_insert xs k h.1 here in
      elim (nat_cmp k x) as (λ o. AllByRecursion P (match_ordering o (k ∷ x ∷ xs) (x ∷ xs) (x ∷ insert_key nat_cmp xs k))) [
        | Less ↦ (here, h)
        | Equal ↦ h
        | Greater ↦ (h.0, more)
      ]

  pub all_with : (old more : List ℕ) → AllByRecursion P old → AllByRecursion P more → AllByRecursion P (with_blocks old more)
  all_with old [] h m = h
  all_with old (x ∷ xs) h m = all_with (insert_key nat_cmp old x) xs (all_insert old x h m.0) m.1

  all_append : (xs ys : List ℕ) → AllByRecursion P xs → AllByRecursion P ys → AllByRecursion P (xs ++ ys)
  all_append [] ys h k = k
  all_append (x ∷ xs) ys h k = (h.0, all_append xs ys h.1 k)

  all_flat : {A : Type 0} (f : A → List ℕ) → ((a : A) → AllByRecursion P (f a)) → (xs : List A) → AllByRecursion P (flat_map f xs)
  all_flat f each [] = tt
  all_flat f each (a ∷ more) = all_append (f a) (flat_map f more) (each a) (all_flat f each more)

  all_filter : (test : ℕ → Bool) (a n : ℕ) → ((k : ℕ) → a ≤ k → k < a + n → P k) → AllByRecursion P (filter test (range_with_len a n))
  all_filter test a zero h = tt
  all_filter test a (suc n) h =
      let more = all_filter test (a + 1) n (λ k low high. h k (omega arith) (omega arith)) in
      elim (test a) as (λ b. AllByRecursion P (if b then a ∷ filter test (range_with_len (a + 1) n) else filter test (range_with_len (a + 1) n))) [
        | true ↦ (h a (omega arith) (omega arith), more)
        | false ↦ more
      ]

-- the blocks of a round are the cluster's
below_all : (c : Numbers) (r : Request) → end_of c r ≤ c.blocks → AllByRecursion (λ k. k < c.blocks) (needed c r)
below_all c r last = all_filter (λ k. k < c.blocks) (needs c r) (first_of c r) (end_of c r - first_of c r) (λ k low high. omega (arith, last))

pub round_below : (c : Numbers) (read : List ℕ) (requests : List (List ℕ)) → ((r : Request) → end_of c r ≤ c.blocks)
    → read ≡ blocks_read c requests → All (λ k. k < c.blocks) read
round_below c read requests last h =
    let P : ℕ → Type 0 = λ k. k < c.blocks in
    let f : List ℕ → List ℕ = λ bytes. needed c (request_of bytes) in
    All-from_recursion P read (subst (AllByRecursion P) (sym h)
    (all_with P [] (flat_map f requests) tt (all_flat P f (λ bytes. below_all c (request_of bytes) (last (request_of bytes))) requests)))
