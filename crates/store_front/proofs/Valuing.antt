-- Values of blocks.
use Rattle.std.proofs.Common.{◌≡◌, ℕ, ◌<◌, ◌≤◌, ◌+◌, ◌-◌, take, drop, Bool, true, false, List, [], ◌∷◌, ◌++◌, length, map, cond, get_or, refl, sym, ap, ◌∙◌, subst, arith, Option, Some, None, Bor}
use Rattle.std.specs.List.{All, AllByRecursion, flat_map, range_with_len, slice_range}
use Rattle.std.proofs.lemmas.List.{append-nil, map-append, take_more}
use Rattle.std.proofs.lemmas.Grind.{flat_map-append}
use Rattle.block_device.proofs.lemmas.Touching.{range_more}
use Rattle.store_front.specs.declared.round.Asked.{Asked}
use Rattle.store_front.specs.Rounds.{bytes_of, requests_of}
use Rattle.std.specs.Ordering.{nat_cmp, match_ordering}
use Rattle.std.specs.declared.cmp.Ordering.TheVariants.{Less, Equal, Greater}
use Rattle.std.specs.BTreeMap.{BTreeMap, get, insert_entry}
use Rattle.std.specs.Map.{lookup, keys_of}
use Rattle.std.specs.BTreeMap.{is_at}
use Rattle.std.specs.List.Sorted.{IsStrictlySortedBy}
use Rattle.std.proofs.lemmas.List.Elements.{All-from_recursion, recursion_from_All}
use Rattle.std.proofs.lemmas.Map.Keys.{below_from_sorted}
use Rattle.std.proofs.lemmas.List.{length-map, length-take, length-drop, get_or-take, get_or-drop}
use Rattle.std.proofs.Math.ListN.{get_or-map}
use Rattle.std.specs.Option.{option_copied, IfSome}
use Rattle.quorum_rules.specs.Limits.{Numbers}
use Rattle.wire_forms.specs.declared.op.Op.{Op}
use Rattle.wire_forms.specs.declared.op.Op.TheVariants.{Read}
use Rattle.wire_forms.specs.Ops.{Fits}
use Rattle.protocol.specs.Seen.{block_of}
use Rattle.store_device.specs.Told.{AreApart}
use Rattle.store_front.specs.Values.{IsBlockValue, AreBlocks, write_of, with_values}

-- ---- a value that is found has the length of a block
sized_in : (c : Numbers) (es : List (ℕ × List ℕ)) (test : ℕ → Bool) (v : List ℕ) → AllByRecursion (IsBlockValue c) es → lookup test es ≡ Some v → length v ≡ c.size
sized_in c [] test v all h = cc
sized_in c (e ∷ es) test v all h =
    let more : lookup test es ≡ Some v → length v ≡ c.size = sized_in c es test v all.1 in
    let here : e.1 ≡ v → length v ≡ c.size = λ same. subst (λ w. length w ≡ c.size) same all.0.1 in
    elim (test e.0) as (λ b. cond b (Some e.1) (lookup test es) ≡ Some v → length v ≡ c.size) [
      | true ↦ λ found. here cc
      | false ↦ λ found. more found
    ] h

pub sized : (c : Numbers) (m : BTreeMap ℕ (List ℕ)) (k : ℕ) (v : List ℕ) → AreBlocks c m → get nat_cmp m k ≡ Some v → length v ≡ c.size
sized c m k v all h = sized_in c m.entries (is_at (nat_cmp k)) v (recursion_from_All (IsBlockValue c) m.entries all) h

-- ---- operations on blocks of their own
pub reads_fit : (c : Numbers) (ks : List ℕ) → AllByRecursion (λ k. k < c.blocks) ks → AllByRecursion (Fits c) (map Read ks)
reads_fit c [] h = tt
reads_fit c (k ∷ ks) h = (h.0, reads_fit c ks h.1)

pub writes_fit : (c : Numbers) (es : List (ℕ × List ℕ)) → AllByRecursion (IsBlockValue c) es → AllByRecursion (Fits c) (map write_of es)
writes_fit c [] h = tt
writes_fit c (e ∷ es) h = (h.0, writes_fit c es h.1)

pub apart_from : (ops : List Op) → IsStrictlySortedBy nat_cmp (map block_of ops) → AreApart ops
apart_from ops h i j d low high same =
    let long : length (map block_of ops) ≡ length ops = length-map ops block_of in
    let below = below_from_sorted (map block_of ops) i j (block_of d) h low (omega (arith, long, high)) in
    let first : get_or (map block_of ops) i (block_of d) ≡ block_of (get_or ops i d) = get_or-map block_of ops i d in
    let last : get_or (map block_of ops) j (block_of d) ≡ block_of (get_or ops j d) = get_or-map block_of ops j d in
    omega (arith, below, first, last, same)

blocks_of_reads : (ks : List ℕ) → map block_of (map Read ks) ≡ ks
blocks_of_reads [] = refl
blocks_of_reads (k ∷ ks) = ap (λ z. k ∷ z) (blocks_of_reads ks)

blocks_of_writes : (es : List (ℕ × List ℕ)) → map block_of (map write_of es) ≡ keys_of es
blocks_of_writes [] = refl
blocks_of_writes (e ∷ es) = ap (λ z. e.0 ∷ z) (blocks_of_writes es)

pub reads_apart : (ops : List Op) (ks : List ℕ) → ops ≡ map Read ks → IsStrictlySortedBy nat_cmp ks → AreApart ops
reads_apart ops ks e h = subst AreApart (sym e) (apart_from (map Read ks) (subst (IsStrictlySortedBy nat_cmp) (sym (blocks_of_reads ks)) h))

pub writes_apart : (ops : List Op) (es : List (ℕ × List ℕ)) → ops ≡ map write_of es → IsStrictlySortedBy nat_cmp (keys_of es) → AreApart ops
writes_apart ops es e h = subst AreApart (sym e) (apart_from (map write_of es) (subst (IsStrictlySortedBy nat_cmp) (sym (blocks_of_writes es)) h))

-- ---- some of them
long_slice : {A : Type 0} (xs : List A) (at end : ℕ) → end ≤ length xs → length (slice_range xs at end) ≡ end - at
long_slice xs at end h = omega (arith, length-take (end - at) (drop at xs), length-drop at xs, h)

in_slice : {A : Type 0} (xs : List A) (at end k : ℕ) (d : A) → k < end - at → get_or (slice_range xs at end) k d ≡ get_or xs (at + k) d
in_slice xs at end k d h = get_or-take (end - at) (drop at xs) k d h ∙ get_or-drop at xs k d

pub apart_slice : (ops : List Op) (at end : ℕ) → end ≤ length ops → AreApart ops → AreApart (slice_range ops at end)
apart_slice ops at end within h i j d low high =
    let long = long_slice ops at end within in
    let first = in_slice ops at end i d (omega (arith, long, low, high)) in
    let last = in_slice ops at end j d (omega (arith, long, high)) in
    λ same. h (at + i) (at + j) d (omega (arith, low)) (omega (arith, long, high, within)) (sym (ap block_of first) ∙ same ∙ ap block_of last)

pub all_slice : {A : Type 0} (P : A → Type 0) (xs : List A) (at end : ℕ) → end ≤ length xs → All P xs → All P (slice_range xs at end)
all_slice P xs at end within h k d high =
    let long = long_slice xs at end within in
    subst P (sym (in_slice xs at end k d (omega (arith, long, high)))) (h (at + k) d (omega (arith, long, high, within)))

pub reads_all_fit : (c : Numbers) (ks : List ℕ) → All (λ k. k < c.blocks) ks → All (Fits c) (map Read ks)
reads_all_fit c ks h = All-from_recursion (Fits c) (map Read ks) (reads_fit c ks (recursion_from_All (λ k. k < c.blocks) ks h))

pub writes_all_fit : (c : Numbers) (es : List (ℕ × List ℕ)) → All (IsBlockValue c) es → All (Fits c) (map write_of es)
writes_all_fit c es h = All-from_recursion (Fits c) (map write_of es) (writes_fit c es (recursion_from_All (IsBlockValue c) es h))

-- ---- values that are found and put
pub found_sized : (c : Numbers) (m : BTreeMap ℕ (List ℕ)) (k : ℕ) (o : Option (Bor (List ℕ))) → option_copied o ≡ get nat_cmp m k → AreBlocks c m → IfSome o (λ v. length v.now ≡ c.size)
found_sized c m k None h all = tt
found_sized c m k (Some v) h all = sized c m k v.now all (sym h)

put_in : (c : Numbers) (es : List (ℕ × List ℕ)) (k : ℕ) (v : List ℕ) → k < c.blocks → length v ≡ c.size → AllByRecursion (IsBlockValue c) es → AllByRecursion (IsBlockValue c) (insert_entry nat_cmp es k v)
put_in c [] k v there long h = ((there, long), tt)
put_in c (e ∷ es) k v there long h =
    let more = put_in c es k v there long h.1 in
    elim (nat_cmp k e.0) as (λ o. AllByRecursion (IsBlockValue c) (match_ordering o ((k, v) ∷ e ∷ es) ((e.0, v) ∷ es) (e ∷ insert_entry nat_cmp es k v))) [
      | Less ↦ ((there, long), h)
      | Equal ↦ ((h.0.0, long), h.1)
      | Greater ↦ (h.0, more)
    ]

pub put_blocks : (c : Numbers) (es new : List (ℕ × List ℕ)) (k : ℕ) (v : List ℕ) → new ≡ insert_entry nat_cmp es k v → k < c.blocks → length v ≡ c.size → All (IsBlockValue c) es → All (IsBlockValue c) new
put_blocks c es new k v is there long h =
    subst (All (IsBlockValue c)) (sym is) (All-from_recursion (IsBlockValue c) (insert_entry nat_cmp es k v) (put_in c es k v there long (recursion_from_All (IsBlockValue c) es h)))

-- ---- values that are put one after the other
pub values_append : (old xs ys : List (ℕ × List ℕ)) → with_values old (xs ++ ys) ≡ with_values (with_values old xs) ys
values_append old [] ys = refl
values_append old (x ∷ xs) ys = values_append (insert_entry nat_cmp old x.0 x.1) xs ys

pub values_put : (old now new more : List (ℕ × List ℕ)) (e : List (ℕ × List ℕ)) → now ≡ with_values old more → new ≡ with_values now e → new ≡ with_values old (more ++ e)
values_put old now new more e before here = here ∙ ap (λ z. with_values z e) before ∙ sym (values_append old more e)

-- the walk over the blocks of a request comes one block further
pub one_value_more : (f : ℕ → List (ℕ × List ℕ)) (old now new : List (ℕ × List ℕ)) (first k : ℕ) → first ≤ k
    → now ≡ with_values old (flat_map f (range_with_len first (k - first))) → new ≡ with_values now (f k)
    → new ≡ with_values old (flat_map f (range_with_len first (k + 1 - first)))
one_value_more f old now new first k low before here =
    let longer : (k - first) + 1 ≡ k + 1 - first = omega arith in
    let place : first + (k - first) ≡ k = omega arith in
    let front = range_with_len first (k - first) in
    values_put old now new (flat_map f front) (f k) before here
    ∙ ap (with_values old) (ap (λ z. flat_map f front ++ z) (sym (append-nil (f k))) ∙ sym (flat_map-append f front (k ∷ [])))
    ∙ ap (λ z. with_values old (flat_map f z)) (sym (range_more first (k - first) k place))
    ∙ ap (λ n. with_values old (flat_map f (range_with_len first n))) longer

-- the walk over requests comes one further
pub one_left_more : (f : List ℕ → List (ℕ × List ℕ)) (now new : List (ℕ × List ℕ)) (asked : List Asked) (next : Asked)
    → now ≡ with_values [] (flat_map f (requests_of asked)) → new ≡ with_values now (f next.bytes.now)
    → new ≡ with_values [] (flat_map f (requests_of (asked ++ next ∷ [])))
one_left_more f now new asked next before here =
    let bytes = next.bytes.now in
    values_put [] now new (flat_map f (requests_of asked)) (f bytes) before here
    ∙ ap (with_values []) (ap (λ z. flat_map f (requests_of asked) ++ z) (sym (append-nil (f bytes))) ∙ sym (flat_map-append f (requests_of asked) (bytes ∷ [])))
    ∙ ap (λ z. with_values [] (flat_map f z)) (sym (map-append bytes_of asked (next ∷ [])))

pub one_left_at : (f : List ℕ → List (ℕ × List ℕ)) (now new : List (ℕ × List ℕ)) (asked : List Asked) (i : ℕ) (d : Asked) → i < length asked
    → now ≡ with_values [] (flat_map f (requests_of (take i asked))) → new ≡ with_values now (f (get_or asked i d).bytes.now)
    → new ≡ with_values [] (flat_map f (requests_of (take (i + 1) asked)))
one_left_at f now new asked i d high before here =
    one_left_more f now new (take i asked) (get_or asked i d) before here
    ∙ ap (λ z. with_values [] (flat_map f (requests_of z))) (sym (take_more asked i d high))
