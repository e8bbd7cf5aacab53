-- What writes leave.
use Rattle.std.proofs.Common.{◌≡◌, inl, inr, ℕ, ◌+◌, ◌-◌, ◌<◌, ◌≤◌, ◌==◌, Bool, List, length, get_or, take, drop, refl, ◌∙◌, ap, arith, length-take, length-drop}
use Rattle.std.proofs.lemmas.Bool.{cases_lt}
use Rattle.std.proofs.lemmas.List.{get_or-take, get_or-drop, ext_get_or}
use Rattle.sqlite_disk.specs.Disk.{Torn, Follows, Holds}
use Rattle.disk_model.specs.Crash.{LeavesOnly}
use Rattle.slab_file.proofs.lemmas.Moments.{leaves_now}
use Rattle.quorum_rules.specs.Limits.{Numbers}
use Rattle.slab_layout.specs.declared.shape.Shape.{Shape}
use Rattle.slab_layout.specs.Shapes.{slab_len, shape_of}
use Rattle.slab_layout.specs.Headers.{header_bytes}
use Rattle.slab_making.specs.Made.{HasHeader, IsBlank, IsWholeOrNone, IsShort, AreAll, BeginsWithZero}

-- a write within a range
pub torn_within : (at count from n : ℕ) (old mid new : List ℕ) → Torn at count old mid → at ≤ from → from + n ≤ at + count → Torn from n mid new → Torn at count old new
torn_within at count from n old mid new first low high second = record {
  no_shorter = omega (arith, first.no_shorter, second.no_shorter);
  no_longer = omega (arith, first.no_longer, second.no_longer, high);
  below = λ i lt less. second.below i (omega (arith, lt, first.no_shorter)) (omega (arith, less, low)) ∙ first.below i lt less;
  above = λ i lt from_i. second.above i (omega (arith, lt, first.no_shorter)) (omega (arith, from_i, high)) ∙ first.above i lt from_i;
}

pub torn_itself : (at n : ℕ) (bytes : List ℕ) → Torn at n bytes bytes
torn_itself at n bytes = record {
  no_shorter = omega arith;
  no_longer = omega arith;
  below = λ i lt less. refl;
  above = λ i lt from. refl;
}

-- the first byte stays
pub zero_stays : (at n : ℕ) (old new : List ℕ) → 0 < at → BeginsWithZero old → Torn at n old new → BeginsWithZero new
zero_stays at n old new behind was torn = record {
  some = omega (arith, was.some, torn.no_shorter);
  zero = torn.below 0 was.some behind ∙ was.zero;
}

pub zero_follows : (at n : ℕ) (before now : List ℕ → Type 0) → 0 < at → ((c : List ℕ) → before c → BeginsWithZero c) → Follows (Torn at n) before now → (c : List ℕ) → now c → BeginsWithZero c
zero_follows at n before now behind each follows c may = (let from = follows c may in zero_stays at n from.0 c behind (each from.0 from.1) from.2)

-- ---- a crash since a moment

module _ {F : Type 0} (moment : F → ℕ) (left_since : F → ℕ → List ℕ → Type 0) (may_leave : F → List ℕ → Type 0) where
  pub begins : (old : F) (P : List ℕ → Type 0) → ((bytes : List ℕ) → left_since old (moment old) bytes → may_leave old bytes) → ((c : List ℕ) → may_leave old c → P c) → LeavesOnly moment left_since old old P
  begins old P only each = leaves_now moment left_since may_leave old P (λ bytes left. each bytes (only bytes left))

  -- what a crash now leaves is of the run
  pub at_end : (old new : F) (P : List ℕ → Type 0) → LeavesOnly moment left_since old new P → ((t : ℕ) (bytes : List ℕ) → t ≤ moment new → may_leave new bytes → left_since new t bytes)
      → (c : List ℕ) → may_leave new c → P c
  at_end old new P so_far counts c may = so_far.each c (counts (moment old) c so_far.later may)

-- ---- a range of one byte

-- n bytes more, after the first so many of a range
pub fill_more : (at done n count byte : ℕ) (bytes mid new : List ℕ) → ((k : ℕ) → k < n → get_or bytes k 0 ≡ byte) → length bytes ≡ n
    → at + count ≤ length mid → done + n ≤ count
    → ((k : ℕ) → at ≤ k → k < at + done → get_or mid k 0 ≡ byte) → Torn (at + done) n mid new → (0 < n → Holds new (at + done) bytes)
    → (k : ℕ) → at ≤ k → k < at + done + n → get_or new k 0 ≡ byte
fill_more at done n count byte bytes mid new same long within fits was torn holds k from to = elim (cases_lt k (at + done)) [
  | inl before ↦ torn.below k (omega (arith, before, within, fits)) before ∙ was k from before
  | inr behind ↦
      let j : ℕ = k - (at + done) in
      let low : j < n = omega (arith, behind, to) in
      let there : k ≡ (at + done) + j = omega (arith, behind) in
      let held : Holds new (at + done) bytes = holds (omega (arith, low)) in
      ap (λ (m : ℕ). get_or new m 0) there ∙ held.each j (omega (arith, low, long)) ∙ same j low
]

-- ---- what is laid out

pub blank_of : (s : Shape) (answers : Bool) (byte : ℕ) (mid new : List ℕ) → (byte == 1) ≡ answers → slab_len s ≤ length mid → AreAll 4096 s.blocks byte mid
    → Torn (4096 + s.blocks) s.count mid new → AreAll (4096 + s.blocks) s.count 0 new → IsBlank s answers new
blank_of s answers byte mid new is long told torn free = record {
  long = omega (arith, long, torn.no_shorter);
  answered = λ b lt.
      let same : get_or new (4096 + b) 0 ≡ byte = torn.below (4096 + b) (omega (arith, lt, long)) (omega (arith, lt)) ∙ told (4096 + b) (omega arith) (omega (arith, lt)) in
      ap (λ (n : ℕ). n == 1) same ∙ is;
  unmarked = λ i lt. ap (λ (n : ℕ). n == 1) (free (4096 + s.blocks + i) (omega arith) (omega (arith, lt)));
}

-- and stays where the first bytes are written
pub blank_stays : (s : Shape) (answers : Bool) (n : ℕ) (old new : List ℕ) → n ≤ 4096 → IsBlank s answers old → Torn 0 n old new → IsBlank s answers new
blank_stays s answers n old new low was torn = record {
  long = omega (arith, was.long, torn.no_shorter);
  answered = λ b lt. ap (λ (m : ℕ). m == 1) (torn.above (4096 + b) (omega (arith, lt, was.long)) (omega (arith, low))) ∙ was.answered b lt;
  unmarked = λ i lt. ap (λ (m : ℕ). m == 1) (torn.above (4096 + s.blocks + i) (omega (arith, lt, was.long)) (omega (arith, low))) ∙ was.unmarked i lt;
}

module _ (c : Numbers) (number key : ℕ) (answers : Bool) where
  pub header_long : length (header_bytes c number key) ≡ 40
  header_long = refl

  pub short_has_none : (bytes : List ℕ) → IsShort bytes → IsWholeOrNone c number key answers bytes
  short_has_none bytes short header =
      let long : length (take 40 (drop 0 bytes)) ≡ 40 = ap length header ∙ header_long in
      absurd (omega (arith, long, short, length-take 40 (drop 0 bytes), length-drop 0 bytes))

  pub zero_has_none : (bytes : List ℕ) → BeginsWithZero bytes → IsWholeOrNone c number key answers bytes
  zero_has_none bytes zero_first header =
      let front : get_or (take 40 (drop 0 bytes)) 0 0 ≡ 80 = ap (λ (l : List ℕ). get_or l 0 0) header in
      let same : get_or (take 40 (drop 0 bytes)) 0 0 ≡ get_or bytes 0 0 = get_or-take 40 (drop 0 bytes) 0 0 (omega arith) ∙ get_or-drop 0 bytes 0 0 in
      absurd (omega (arith, front, same, zero_first.zero))

  pub written_is_whole : (n : ℕ) (old new : List ℕ) → n ≤ 4096 → IsBlank (shape_of c) answers old → Torn 0 n old new → IsWholeOrNone c number key answers new
  written_is_whole n old new low was torn header = record { header = header; blank = blank_stays (shape_of c) answers n old new low was torn }

  pub part_holds : (bytes piece : List ℕ) → piece ≡ header_bytes c number key → Holds bytes 0 piece → HasHeader c number key bytes
  part_holds bytes piece is holds =
      let long : length piece ≡ 40 = ap length is ∙ header_long in
      let within = holds.within in
      let size : length (take 40 (drop 0 bytes)) ≡ length piece = omega (arith, length-take 40 (drop 0 bytes), length-drop 0 bytes, within, long) in
      ext_get_or 0 (take 40 (drop 0 bytes)) piece size (λ i below.
      get_or-take 40 (drop 0 bytes) i 0 (omega (arith, below, size, long)) ∙ get_or-drop 0 bytes i 0 ∙ holds.each i (omega (arith, below, size))) ∙ is
