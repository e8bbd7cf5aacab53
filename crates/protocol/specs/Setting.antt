-- What a run takes place in: the configuration, the code, the digest, and who lies.
use Rattle.std.specs.Prelude.{◌≡◌, ℕ, ◌+◌, ◌≤◌, ◌<◌, Bool, not, List, [], ◌∷◌, length, replicate, slice_index_or}
use Rattle.std.specs.List.{Contains}
use Rattle.std.specs.Ordering.{nat_cmp, is_eq}
use Rattle.std.specs.Cmp.Lexicographic.{slice_cmp}
use Rattle.protocol.specs.Count.{count}
use Rattle.stamp_order.specs.declared.Stamp.{Stamp}
use Rattle.protocol.specs.Messages.{flat, IsBytes}

-- the numbers of the cluster, its code and digest, and who is declared lying
pub record Setting : Type 0 where
  pub n : ℕ
  pub t : ℕ
  pub b : ℕ
  pub qc : ℕ
  pub m : ℕ
  pub size : ℕ
  pub blocks : ℕ
  pub share : ℕ
  -- the fragments of a block, all together and one by one; what parts decode to; the digest
  pub fragment_of : List ℕ → ℕ → List ℕ
  pub decoded : List (ℕ × List ℕ) → List ℕ
  pub digest : List ℕ → List ℕ
  -- the cross checksum of a block: the digests of its fragments
  pub sum_of : List ℕ → List (List ℕ)
  pub lying_node : ℕ → Bool
  pub lying_client : ℕ → Bool

-- the numbers of the parts ascend
abbrev pub IsAscending : {A : Type 0} → List (ℕ × A) → Type 0
IsAscending [] = Unit {0}
IsAscending {A} (p ∷ ps) = ((q : ℕ × A) → Contains ps q → p.0 < q.0) × IsAscending ps

module _ (s : Setting) where
  -- the block of zeros
  abbrev pub zeros : List ℕ
  zeros = replicate s.size 0

  -- the digest of a block's cross checksum
  abbrev pub verifier_of : List ℕ → List ℕ
  verifier_of value = s.digest (flat (s.sum_of value))

  -- the stamp that every block has from the beginning
  abbrev pub first_stamp : Stamp
  first_stamp = record { time = 0; client = 0; verifier = verifier_of zeros }

  -- digest i of a cross checksum
  abbrev pub digest_at : List (List ℕ) → ℕ → List ℕ
  digest_at sum i = slice_index_or sum i []

  -- bytes, as many as a block has
  abbrev pub IsBlock : List ℕ → Type 0
  IsBlock value = (length value ≡ s.size) × IsBytes value

  -- bytes, as many as a fragment has
  abbrev pub IsFragment : List ℕ → Type 0
  IsFragment x = (length x ≡ s.share) × IsBytes x

  -- the node isn't declared lying
  abbrev pub honest : ℕ → Bool
  honest i = not (s.lying_node i)

  -- the value is what the stamp says
  abbrev pub Sound : Stamp → List ℕ → Type 0
  Sound stamp value = stamp.verifier ≡ verifier_of value

  -- the numbers fit each other, and the code and the digest keep their laws
  pub record IsValid : Type 0 where
    pub liars_few : s.b ≤ s.t
    pub quorum_low : s.t + s.b + 1 ≤ s.qc
    pub quorum_high : s.qc + s.t + s.b ≤ s.n
    pub shares_some : 1 ≤ s.m
    pub shares_few : s.m + s.t ≤ s.qc
    -- at most b nodes lie
    pub liars : count s.n s.lying_node ≤ s.b
    -- the laws of the code and of the digest
    pub length-digest : (x : List ℕ) → length (s.digest x) ≡ 32
    pub length-sum : (value : List ℕ) → IsBlock value → length (s.sum_of value) ≡ s.n
    pub digests : (value : List ℕ) (i : ℕ) → IsBlock value → i < s.n → digest_at (s.sum_of value) i ≡ s.digest (s.fragment_of value i)
    pub length-fragment : (value : List ℕ) (i : ℕ) → IsBlock value → i < s.n → length (s.fragment_of value i) ≡ s.share
    pub bytes-fragment : (value : List ℕ) (i : ℕ) → IsBlock value → IsBytes (s.fragment_of value i)
    -- m parts that are fragments of a block decode to it
    pub decodes : (value : List ℕ) (parts : List (ℕ × List ℕ)) → IsBlock value → length parts ≡ s.m → IsAscending parts
        → ((q : ℕ × List ℕ) → Contains parts q → (q.0 < s.n) × (q.1 ≡ s.fragment_of value q.0)) → s.decoded parts ≡ value
    pub decoded-block : (parts : List (ℕ × List ℕ)) → length parts ≡ s.m → IsAscending parts → ((q : ℕ × List ℕ) → Contains parts q → (q.0 < s.n) × IsFragment q.1) → IsBlock (s.decoded parts)

-- the same bytes
unfoldable pub same : List ℕ → List ℕ → Bool
same xs ys = is_eq (slice_cmp nat_cmp xs ys)

-- the same digests
unfoldable pub same_digests : List (List ℕ) → List (List ℕ) → Bool
same_digests xs ys = is_eq (slice_cmp (slice_cmp nat_cmp) xs ys)
