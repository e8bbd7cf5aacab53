-- What is written into a slab reads back, and what reads was written.
use Rattle.std.proofs.Common.{◌≡◌, ℕ, zero, suc, ◌+◌, ◌-◌, ◌*◌, ◌<◌, ◌≤◌, List, [], ◌∷◌, ◌++◌, length, get_or, take, drop, refl, sym, ◌∙◌, ap, arith, append_assoc, length-append, length-take, length-drop}
use Rattle.std.specs.List.{AllByRecursion}
use Rattle.std.proofs.lemmas.List.{take_at, drop_at, drop-drop, take-append-drop}
use Rattle.std.proofs.lemmas.Nat.{from_be_bytes-to_be_bytes_4, from_be_bytes-to_be_bytes_8, be_bytes_4, be_bytes_8}
use Rattle.std.specs.Int.{w32, w64, to_be_bytes, from_be_bytes}
use Rattle.stamp_order.specs.declared.Stamp.{Stamp}
use Rattle.protocol.specs.Messages.{Version, flat, AreDigests}
use Rattle.slot_disk.specs.Slots.{word_at, long_at, digests}
use Rattle.sqlite_disk.specs.Digest.{digest}
use Rattle.slab_layout.specs.Heads.{Head, covered, head_bytes, head_in, FitsCheck, HasPlace}
use Rattle.slab_layout.specs.Data.{data_of, version_in, HasDigests}

-- ---- bytes

abbrev pub AreBytes : List ℕ → Type 0
AreBytes bytes = AllByRecursion (λ b. b < 256) bytes

bytes_behind : (n : ℕ) (l : List ℕ) → AreBytes l → AreBytes (drop n l)
bytes_behind zero l all = all
bytes_behind (suc n) [] all = tt
bytes_behind (suc n) (x ∷ l) all = bytes_behind n l all.1

bytes_before : (n : ℕ) (l : List ℕ) → AreBytes l → AreBytes (take n l)
bytes_before zero l all = tt
bytes_before (suc n) [] all = tt
bytes_before (suc n) (x ∷ l) all = (all.0, bytes_before n l all.1)

each_byte : (l : List ℕ) → AreBytes l → (i : ℕ) → get_or l i 0 < 256
each_byte [] all i = omega arith
each_byte (x ∷ l) all zero = all.0
each_byte (x ∷ l) all (suc i) = each_byte l all.1 i

abbrev the_empty : List ℕ
the_empty = []

none_of : (k : ℕ) → the_empty ≡ take k the_empty
none_of zero = refl
none_of (suc k) = refl

-- neighbours are one piece
joined : (n m : ℕ) (l : List ℕ) → take n l ++ take m (drop n l) ≡ take (n + m) l
joined zero m l = ap (λ k. take k l) (omega arith)
joined (suc n) zero [] = none_of (suc n + zero)
joined (suc n) (suc m) [] = none_of (suc n + suc m)
joined (suc n) m (x ∷ l) =
    let more : suc (n + m) ≡ suc n + m = omega arith in
    ap (λ t. x ∷ t) (joined n m l) ∙ ap (λ k. take k (x ∷ l)) more

module _ (bytes : List ℕ) (all : AreBytes bytes) where
  word_back : (at : ℕ) → at + 4 ≤ length bytes → to_be_bytes w32 (from_be_bytes w32 (take 4 (drop at bytes))) ≡ take 4 (drop at bytes)
  word_back at fits =
      be_bytes_4 (take 4 (drop at bytes)) _ (omega (arith, length-take 4 (drop at bytes), length-drop at bytes))
      (each_byte _ (bytes_before 4 (drop at bytes) (bytes_behind at bytes all))) refl

  long_back : (at : ℕ) → at + 8 ≤ length bytes → to_be_bytes w64 (from_be_bytes w64 (take 8 (drop at bytes))) ≡ take 8 (drop at bytes)
  long_back at fits =
      be_bytes_8 (take 8 (drop at bytes)) _ (omega (arith, length-take 8 (drop at bytes), length-drop at bytes))
      (each_byte _ (bytes_before 8 (drop at bytes) (bytes_behind at bytes all))) refl

-- one piece more
grown : (bytes front piece : List ℕ) (n m : ℕ) → front ≡ take n bytes → piece ≡ take m (drop n bytes) → front ++ piece ≡ take (n + m) bytes
grown bytes front piece n m first second = (λ i. first i ++ second i) ∙ joined n m bytes

-- ---- heads

covered_back : (bytes : List ℕ) → length bytes ≡ 72 → AreBytes bytes → covered (head_in bytes) ≡ take 64 bytes
covered_back bytes long all =
    let h = head_in bytes in
    let to_time : to_be_bytes w32 h.block ++ to_be_bytes w64 h.stamp.time ≡ take 12 bytes =
    grown bytes (to_be_bytes w32 h.block) (to_be_bytes w64 h.stamp.time) 4 8 (word_back bytes all 0 (omega (arith, long))) (long_back bytes all 4 (omega (arith, long))) in
    let to_client : (to_be_bytes w32 h.block ++ to_be_bytes w64 h.stamp.time) ++ to_be_bytes w32 h.stamp.client ≡ take 16 bytes =
    grown bytes _ (to_be_bytes w32 h.stamp.client) 12 4 to_time (word_back bytes all 12 (omega (arith, long))) in
    let to_verifier : ((to_be_bytes w32 h.block ++ to_be_bytes w64 h.stamp.time) ++ to_be_bytes w32 h.stamp.client) ++ h.stamp.verifier ≡ take 48 bytes =
    grown bytes _ h.stamp.verifier 16 32 to_client refl in
    let to_number : (((to_be_bytes w32 h.block ++ to_be_bytes w64 h.stamp.time) ++ to_be_bytes w32 h.stamp.client) ++ h.stamp.verifier) ++ to_be_bytes w64 h.number ≡ take 56 bytes =
    grown bytes _ (to_be_bytes w64 h.number) 48 8 to_verifier (long_back bytes all 48 (omega (arith, long))) in
    grown bytes _ (to_be_bytes w64 h.data_check) 56 8 to_number (long_back bytes all 56 (omega (arith, long)))

-- bytes that fit their check are those of the head that they tell
pub written_head : (key : ℕ) (bytes : List ℕ) → length bytes ≡ 72 → AreBytes bytes → FitsCheck key bytes → bytes ≡ head_bytes key (head_in bytes)
written_head key bytes long all fits =
    let front = covered_back bytes long all in
    sym (take-append-drop 64 bytes) ∙ (λ i. sym front i ++ fits i) ∙ ap (λ l. covered (head_in bytes) ++ to_be_bytes w64 (digest key l)) (sym front)

covered_long : (h : Head) → HasPlace h → length (covered h) ≡ 64
covered_long h place =
    let front : List ℕ = to_be_bytes w32 h.block ++ to_be_bytes w64 h.stamp.time ++ to_be_bytes w32 h.stamp.client in
    let front_long : length front ≡ 16 = refl in
    let number_long : length (to_be_bytes w64 h.number) ≡ 8 = refl in
    let check_long : length (to_be_bytes w64 h.data_check) ≡ 8 = refl in
    omega (
      arith,
      front_long,
      number_long,
      check_long,
      length-append ((front ++ h.stamp.verifier) ++ to_be_bytes w64 h.number) (to_be_bytes w64 h.data_check),
      length-append (front ++ h.stamp.verifier) (to_be_bytes w64 h.number),
      length-append front h.stamp.verifier,
      place.verifier,
    )

-- and bytes of a head fit their check
pub never_written : (key : ℕ) (bytes : List ℕ) (h : Head) → HasPlace h → bytes ≡ head_bytes key h → FitsCheck key bytes
never_written key bytes h place is =
    let long = covered_long h place in
    let check = to_be_bytes w64 (digest key (covered h)) in
    ap (drop 64) is ∙ drop_at (covered h) check 64 long
    ∙ ap (λ l. to_be_bytes w64 (digest key l)) (sym (ap (take 64) is ∙ take_at (covered h) check 64 long))

module _ (key : ℕ) (h : Head) (place : HasPlace h) where
  abbrev front : List ℕ
  front = to_be_bytes w32 h.block ++ to_be_bytes w64 h.stamp.time ++ to_be_bytes w32 h.stamp.client

  abbrev check : List ℕ
  check = to_be_bytes w64 (digest key (covered h))

  abbrev tail : List ℕ
  tail = to_be_bytes w64 h.number ++ (to_be_bytes w64 h.data_check ++ check)

  abbrev bytes : List ℕ
  bytes = front ++ (h.stamp.verifier ++ tail)

  apart : head_bytes key h ≡ bytes
  apart =
      append_assoc ((front ++ h.stamp.verifier) ++ to_be_bytes w64 h.number) (to_be_bytes w64 h.data_check) check
      ∙ append_assoc (front ++ h.stamp.verifier) (to_be_bytes w64 h.number) (to_be_bytes w64 h.data_check ++ check)
      ∙ append_assoc front h.stamp.verifier tail

  behind : drop 48 bytes ≡ tail
  behind = drop_at h.stamp.verifier tail 32 place.verifier

  whole : head_in bytes ≡ h
  whole =
      let block : word_at bytes 0 ≡ h.block = from_be_bytes-to_be_bytes_4 h.block place.block in
      let time : long_at bytes 4 ≡ h.stamp.time = from_be_bytes-to_be_bytes_8 h.stamp.time place.time in
      let client : word_at bytes 12 ≡ h.stamp.client = from_be_bytes-to_be_bytes_4 h.stamp.client place.client in
      let verifier : take 32 (drop 16 bytes) ≡ h.stamp.verifier = take_at h.stamp.verifier tail 32 place.verifier in
      let number : long_at bytes 48 ≡ h.number = ap (λ l. from_be_bytes w64 (take 8 l)) behind ∙ from_be_bytes-to_be_bytes_8 h.number place.number in
      let data_check : long_at bytes 56 ≡ h.data_check =
      ap (λ l. from_be_bytes w64 (take 8 l)) (sym (drop-drop 8 48 bytes) ∙ ap (drop 8) behind) ∙ from_be_bytes-to_be_bytes_8 h.data_check place.data_check in
      λ i. record {
        block = block i;
        stamp = record { time = time i; client = client i; verifier = verifier i };
        number = number i;
        data_check = data_check i;
      }

-- a head's bytes tell the head
pub head_of_bytes : (key : ℕ) (h : Head) → HasPlace h → head_in (head_bytes key h) ≡ h
head_of_bytes key h place = ap head_in (apart key h place) ∙ whole key h place

-- ---- data

length-flat : (ds : List (List ℕ)) → AreDigests ds → length (flat ds) ≡ 32 * length ds
length-flat [] long = refl
length-flat (d ∷ ds) long = omega (arith, length-append d (flat ds), long.0, length-flat ds long.1)

digests_flat : (ds : List (List ℕ)) (rest : List ℕ) → AreDigests ds → digests (length ds) (flat ds ++ rest) ≡ ds
digests_flat [] rest long = refl
digests_flat (d ∷ ds) rest long =
    let apart : flat (d ∷ ds) ++ rest ≡ d ++ (flat ds ++ rest) = append_assoc d (flat ds) rest in
    ap (λ (l : List ℕ). take 32 l ∷ digests (length ds) (drop 32 l)) apart
    ∙ ap (λ (l : List ℕ). l ∷ digests (length ds) (drop 32 (d ++ (flat ds ++ rest)))) (take_at d (flat ds ++ rest) 32 long.0)
    ∙ ap (λ (l : List ℕ). d ∷ digests (length ds) l) (drop_at d (flat ds ++ rest) 32 long.0)
    ∙ ap (λ (l : List (List ℕ)). d ∷ l) (digests_flat ds rest long.1)

pub data_back : (nodes : ℕ) (v : Version) → HasDigests nodes v → version_in nodes v.stamp (data_of v) ≡ v
data_back nodes v has =
    let sum : digests nodes (flat v.sum ++ v.fragment) ≡ v.sum = ap (λ k. digests k (flat v.sum ++ v.fragment)) (sym has.count) ∙ digests_flat v.sum v.fragment has.digests in
    let fragment : drop (32 * nodes) (flat v.sum ++ v.fragment) ≡ v.fragment =
    drop_at (flat v.sum) v.fragment (32 * nodes) (length-flat v.sum has.digests ∙ ap (λ k. 32 * k) has.count) in
    λ i. record { stamp = v.stamp; sum = sum i; fragment = fragment i }

-- so many digests are so many bytes
flat_digests : (nodes : ℕ) (bytes : List ℕ) → 32 * nodes ≤ length bytes → flat (digests nodes bytes) ≡ take (32 * nodes) bytes
flat_digests zero bytes fits = refl
flat_digests (suc n) bytes fits =
    let size : 32 * suc n ≡ 32 + 32 * n = omega arith in
    ap (λ l. take 32 bytes ++ l) (flat_digests n (drop 32 bytes) (omega (arith, length-drop 32 bytes, fits)))
    ∙ joined 32 (32 * n) bytes ∙ ap (λ k. take k bytes) (sym size)

pub data_forth : (nodes : ℕ) (stamp : Stamp) (bytes : List ℕ) → 32 * nodes ≤ length bytes → data_of (version_in nodes stamp bytes) ≡ bytes
data_forth nodes stamp bytes fits = ap (λ l. l ++ drop (32 * nodes) bytes) (flat_digests nodes bytes fits) ∙ take-append-drop (32 * nodes) bytes
