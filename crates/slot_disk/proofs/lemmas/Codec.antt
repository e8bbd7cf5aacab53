-- A body tells what it was written from.
use Rattle.std.proofs.Common.{◌≡◌, ℕ, zero, suc, ◌+◌, ◌-◌, ◌*◌, List, [], ◌∷◌, ◌++◌, length, take, drop, replicate, refl, sym, ◌∙◌, ap, arith, append_assoc, length-append}
use Rattle.std.specs.Prelude.{slice_range}
use Rattle.std.proofs.lemmas.List.{take_at, drop_at, drop-drop, replicate-append-replicate, replicate_more}
use Rattle.std.proofs.lemmas.Nat.{from_be_bytes-to_be_bytes_4, from_be_bytes-to_be_bytes_8}
use Rattle.std.specs.Int.{w32, w64, to_be_bytes}
use Rattle.protocol.specs.Messages.{flat, AreDigests}
use Rattle.quorum_rules.specs.Limits.{Numbers}
use Rattle.slot_disk.specs.Slots.{Slot, digests, word_at, long_at, slot_of, body_of, Fits}

pub length-flat : (ds : List (List ℕ)) → AreDigests ds → length (flat ds) ≡ 32 * length ds
length-flat [] long = refl
length-flat (d ∷ ds) long = omega (arith, length-append d (flat ds), long.0, length-flat ds long.1)

digests_flat : (ds : List (List ℕ)) (rest : List ℕ) → AreDigests ds → digests (length ds) (flat ds ++ rest) ≡ ds
digests_flat [] rest long = refl
digests_flat (d ∷ ds) rest long =
    let apart : flat (d ∷ ds) ++ rest ≡ d ++ (flat ds ++ rest) = append_assoc d (flat ds) rest in
    ap (λ (l : List ℕ). take 32 l ∷ digests (length ds) (drop 32 l)) apart
    ∙ ap (λ (l : List ℕ). l ∷ digests (length ds) (drop 32 (d ++ (flat ds ++ rest)))) (take_at d (flat ds ++ rest) 32 long.0)
    ∙ ap (λ (l : List ℕ). d ∷ digests (length ds) l) (drop_at d (flat ds ++ rest) 32 long.0)
    ∙ ap (λ (l : List (List ℕ)). d ∷ l) (digests_flat ds rest long.1)

-- what stands behind the three numbers
abbrev behind : Slot → List ℕ
behind s = s.version.stamp.verifier ++ (flat s.version.sum ++ s.version.fragment)

-- what stands before it
abbrev head : Slot → List ℕ
head s = (s.kind ∷ []) ++ to_be_bytes w32 s.block ++ to_be_bytes w64 s.version.stamp.time ++ to_be_bytes w32 s.version.stamp.client

apart : (s : Slot) → body_of s ≡ head s ++ behind s
apart s = append_assoc (head s ++ s.version.stamp.verifier) (flat s.version.sum) s.version.fragment ∙ append_assoc (head s) s.version.stamp.verifier (flat s.version.sum ++ s.version.fragment)

module _ (c : Numbers) (s : Slot) (fits : Fits c s) where
  abbrev bytes : List ℕ
  bytes = head s ++ behind s

  block_is : word_at bytes 1 ≡ s.block
  block_is = from_be_bytes-to_be_bytes_4 s.block fits.block

  time_is : long_at bytes 5 ≡ s.version.stamp.time
  time_is = from_be_bytes-to_be_bytes_8 s.version.stamp.time fits.time

  client_is : word_at bytes 13 ≡ s.version.stamp.client
  client_is = from_be_bytes-to_be_bytes_4 s.version.stamp.client fits.client

  verifier_is : take 32 (drop 17 bytes) ≡ s.version.stamp.verifier
  verifier_is = take_at s.version.stamp.verifier (flat s.version.sum ++ s.version.fragment) 32 fits.verifier

  after_head : drop 49 bytes ≡ flat s.version.sum ++ s.version.fragment
  after_head = drop_at s.version.stamp.verifier (flat s.version.sum ++ s.version.fragment) 32 fits.verifier

  sum_is : digests c.n (drop 49 bytes) ≡ s.version.sum
  sum_is = ap (digests c.n) after_head ∙ ap (λ (k : ℕ). digests k (flat s.version.sum ++ s.version.fragment)) (sym fits.count) ∙ digests_flat s.version.sum s.version.fragment fits.digests

  fragment_is : drop (49 + 32 * c.n) bytes ≡ s.version.fragment
  fragment_is =
      sym (drop-drop (32 * c.n) 49 bytes) ∙ ap (drop (32 * c.n)) after_head
      ∙ drop_at (flat s.version.sum) s.version.fragment (32 * c.n) (length-flat s.version.sum fits.digests ∙ ap (λ (k : ℕ). 32 * k) fits.count)

  whole : slot_of c.n bytes ≡ s
  whole = λ i. record {
    kind = s.kind;
    block = block_is i;
    version = record {
      stamp = record { time = time_is i; client = client_is i; verifier = verifier_is i };
      sum = sum_is i;
      fragment = fragment_is i;
    };
  }

-- a body tells what it was written from
pub slot_of_body : (c : Numbers) (s : Slot) → Fits c s → slot_of c.n (body_of s) ≡ s
slot_of_body c s fits = ap (slot_of c.n) (apart s) ∙ whole c s fits

-- one digest more
pub digests_more : (i : ℕ) (bytes : List ℕ) → digests (i + 1) bytes ≡ digests i bytes ++ slice_range bytes (32 * i) (32 * i + 32) ∷ []
digests_more i bytes =
    let same : i + 1 ≡ suc i = omega arith in
    let wide : 32 * i + 32 - 32 * i ≡ 32 = omega arith in
    ap (λ (k : ℕ). digests k bytes) same ∙ digests_next i bytes ∙ ap (λ (k : ℕ). digests i bytes ++ take k (drop (32 * i) bytes) ∷ []) (sym wide)
  where
    digests_next : (k : ℕ) (b : List ℕ) → digests (suc k) b ≡ digests k b ++ take 32 (drop (32 * k) b) ∷ []
    digests_next zero b = refl
    digests_next (suc k) b =
        let more : 32 + 32 * k ≡ 32 * suc k = omega arith in
        ap (λ (l : List (List ℕ)). take 32 b ∷ l) (digests_next k (drop 32 b))
        ∙ ap (λ (l : List ℕ). take 32 b ∷ (digests k (drop 32 b) ++ take 32 l ∷ [])) (drop-drop (32 * k) 32 b ∙ ap (λ (n : ℕ). drop n b) more)

-- so many digests of zero bytes, one behind the other
flat_zeros : (k : ℕ) → flat (replicate k (replicate 32 0)) ≡ replicate (32 * k) 0
flat_zeros zero = refl
flat_zeros (suc k) =
    let more : 32 + 32 * k ≡ 32 * suc k = omega arith in
    ap (λ (l : List ℕ). replicate 32 0 ++ l) (flat_zeros k) ∙ replicate-append-replicate 32 (32 * k) 0 ∙ ap (λ (n : ℕ). replicate n 0) more

-- the zero bytes behind the head of a prune's piece
pub zeros_apart : (n share : ℕ) (head : List ℕ) → head ++ replicate (32 * n + share + 1) 0 ≡ head ++ flat (replicate n (replicate 32 0)) ++ replicate share 0 ++ 0 ∷ []
zeros_apart n share head =
    let all : replicate (32 * n + share + 1) 0 ≡ flat (replicate n (replicate 32 0)) ++ (replicate share 0 ++ 0 ∷ []) =
    ap (λ (k : ℕ). replicate k 0) (let same : 32 * n + share + 1 ≡ 32 * n + (share + 1) = omega arith in same)
    ∙ sym (replicate-append-replicate (32 * n) (share + 1) 0)
    ∙ ap (λ (l : List ℕ). l ++ replicate (share + 1) 0) (sym (flat_zeros n))
    ∙ ap (λ (l : List ℕ). flat (replicate n (replicate 32 0)) ++ l) (sym (replicate_more share 0)) in
    ap (λ (l : List ℕ). head ++ l) all
    ∙ sym (append_assoc head (flat (replicate n (replicate 32 0))) (replicate share 0 ++ 0 ∷ []))
    ∙ sym (append_assoc (head ++ flat (replicate n (replicate 32 0))) (replicate share 0) (0 ∷ []))

pub zero_digests : (k : ℕ) → AreDigests (replicate k (replicate 32 0))
zero_digests zero = tt
zero_digests (suc k) = (refl, zero_digests k)

-- five pieces behind others
pub five_behind : (p a b c d e : List ℕ) → ((((p ++ a) ++ b) ++ c) ++ d) ++ e ≡ p ++ ((((a ++ b) ++ c) ++ d) ++ e)
five_behind p a b c d e = simp append_assoc
