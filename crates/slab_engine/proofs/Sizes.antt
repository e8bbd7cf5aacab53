-- How long what is written of a version is.
use Rattle.std.proofs.Common.{◌≡◌, ℕ, ◌++◌, length, refl, arith, length-append}
use Rattle.std.specs.Int.{w32, w64, to_be_bytes}
use Rattle.quorum_rules.specs.Limits.{Numbers}
use Rattle.sqlite_disk.specs.Digest.{digest}
use Rattle.protocol.specs.Messages.{Version, flat, AreDigests}
use Rattle.slot_disk.proofs.lemmas.Codec.{length-flat}
use Rattle.slab_layout.specs.declared.head.Head.{Head}
use Rattle.slab_layout.specs.Shapes.{shape_of, data_len}
use Rattle.slab_layout.specs.Heads.{covered, head_bytes}
use Rattle.slab_layout.specs.Data.{data_of}

word_long : (n : ℕ) → length (to_be_bytes w32 n) ≡ 4
word_long n = refl

long_long : (n : ℕ) → length (to_be_bytes w64 n) ≡ 8
long_long n = refl

pub head_long : (key : ℕ) (h : Head) → length h.stamp.verifier ≡ 32 → length (head_bytes key h) ≡ 72
head_long key h v =
    let a = to_be_bytes w32 h.block in
    let b = to_be_bytes w64 h.stamp.time in
    let d = to_be_bytes w32 h.stamp.client in
    let e = to_be_bytes w64 h.number in
    let f = to_be_bytes w64 h.data_check in
    let g = to_be_bytes w64 (digest key (covered h)) in
    omega (
      arith,
      v,
      length-append (covered h) g,
      length-append (a ++ b ++ d ++ h.stamp.verifier ++ e) f,
      length-append (a ++ b ++ d ++ h.stamp.verifier) e,
      length-append (a ++ b ++ d) h.stamp.verifier,
      length-append (a ++ b) d,
      length-append a b,
      word_long h.block,
      long_long h.stamp.time,
      word_long h.stamp.client,
      long_long h.number,
      long_long h.data_check,
      long_long (digest key (covered h)),
    )

pub data_long : (c : Numbers) (v : Version) → AreDigests v.sum → length v.sum ≡ c.n → length v.fragment ≡ (shape_of c).share → length (data_of v) ≡ data_len (shape_of c)
data_long c v digests sums share = omega (arith, length-append (flat v.sum) v.fragment, length-flat v.sum digests, sums, share)
