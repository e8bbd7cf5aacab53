-- What was read is a part of the bytes.
use Rattle.std.proofs.Common.{◌≡◌, ℕ, ◌+◌, ◌-◌, ◌<◌, ◌≤◌, ◌==◌, Bool, false, List, length, map, get_or, drop, sym, ◌∙◌, ap, arith, length-take, length-drop}
use Rattle.std.specs.Prelude.{slice_range}
use Rattle.std.proofs.lemmas.List.{ext_get_or, get_or-take, get_or-drop, get_or-map, length-map}
use Rattle.sqlite_disk.specs.Disk.{Holds}
use Rattle.slab_layout.specs.declared.shape.Shape.{Shape}
use Rattle.slab_layout.specs.Shapes.{part, answer_at, data_at, data_len}
use Rattle.slab_reading.specs.Opened.{AreAnswers}

-- a part of what was read
pub range_read : (bytes piece : List ℕ) (at from to : ℕ) → Holds bytes at piece → from ≤ to → to ≤ length piece → part bytes (at + from) (to - from) ≡ slice_range piece from to
range_read bytes piece at from to holds le within =
    let n : ℕ = to - from in
    let long = holds.within in
    let one : length (part bytes (at + from) n) ≡ n = omega (arith, length-take n (drop (at + from) bytes), length-drop (at + from) bytes, long, le, within) in
    let two : length (slice_range piece from to) ≡ n = omega (arith, length-take n (drop from piece), length-drop from piece, le, within) in
    ext_get_or 0 (part bytes (at + from) n) (slice_range piece from to) (omega (arith, one, two))
    (λ i below.
    let lt : i < n = omega (arith, below, one) in
    let place : at + from + i ≡ at + (from + i) = omega arith in
    let was : get_or bytes (at + (from + i)) 0 ≡ get_or piece (from + i) 0 = holds.each (from + i) (omega (arith, lt, le, within)) in
    get_or-take n (drop (at + from) bytes) i 0 lt ∙ get_or-drop (at + from) bytes i 0
    ∙ ap (λ (k : ℕ). get_or bytes k 0) place ∙ was
    ∙ sym (get_or-take n (drop from piece) i 0 lt ∙ get_or-drop from piece i 0))

-- all of it
pub part_read : (bytes : List ℕ) (at n : ℕ) (piece : List ℕ) → n ≡ length piece → Holds bytes at piece → part bytes at n ≡ piece
part_read bytes at n piece long holds =
    let within = holds.within in
    let size : length (part bytes at n) ≡ length piece = omega (arith, length-take n (drop at bytes), length-drop at bytes, within, long) in
    ext_get_or 0 (part bytes at n) piece size (λ i below.
    get_or-take n (drop at bytes) i 0 (omega (arith, below, size, long)) ∙ get_or-drop at bytes i 0 ∙ holds.each i (omega (arith, below, size)))

-- the data that were read
pub data_were_read : (s : Shape) (bytes : List ℕ) (slot at : ℕ) (room : List ℕ) → at ≡ data_at s slot → length room ≡ data_len s → Holds bytes at room → part bytes (data_at s slot) (data_len s) ≡ room
data_were_read s bytes slot at room place long holds = ap (λ (n : ℕ). part bytes n (data_len s)) (sym place) ∙ part_read bytes at (data_len s) room (sym long) holds

-- the answers that were read
pub answers_read : (s : Shape) (bytes piece : List ℕ) (at : ℕ) (answers : List Bool) → at ≡ answer_at s 0 → length piece ≡ s.blocks → Holds bytes at piece → answers ≡ map (λ b. b == 1) piece → AreAnswers s bytes answers
answers_read s bytes piece at answers place long holds is = record {
  blocks = ap length is ∙ length-map piece (λ b. b == 1) ∙ long;
  each = λ block lt.
      let below : block < length piece = omega (arith, lt, long) in
      let here : at + block ≡ answer_at s block = omega (arith, place) in
      ap (λ (l : List Bool). get_or l block false) is
      ∙ get_or-map (λ b. b == 1) piece block 0 false below
      ∙ ap (λ (b : ℕ). b == 1) (sym (holds.each block below) ∙ ap (λ (k : ℕ). get_or bytes k 0) here);
}
