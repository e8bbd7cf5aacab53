-- What is there after one more part of a piece was written or read.
use Rattle.std.proofs.Common.{◌≡◌, inl, inr, ℕ, ◌+◌, ◌-◌, ◌<◌, ◌≤◌, List, length, take, slice_index, sym, ◌∙◌, ap, arith, length-take, get_or-take}
use Rattle.std.proofs.lemmas.Bool.{cases_lt}
use Rattle.sqlite_disk.specs.Disk.{Holds}
use Rattle.sqlite_disk.specs.Events.{overlaid}
use Rattle.sqlite_disk.proofs.EventLemmas.{Holds-overlaid, Torn-overlaid}

-- the file has the first bytes of the piece
pub record HasFirst (file : List ℕ) (at : ℕ) (piece : List ℕ) (done : ℕ) : Type 0 where
  pub within : 0 < done → at + done ≤ length file
  pub each : (i : ℕ) → i < done → slice_index file (at + i) ≡ slice_index piece i

pub has_none : (file : List ℕ) (at : ℕ) (piece : List ℕ) → HasFirst file at piece 0
has_none file at piece = record { within = λ some. absurd (omega (arith, some)); each = λ i lt. absurd (omega (arith, lt)) }

pub holds_all : (file : List ℕ) (at : ℕ) (piece : List ℕ) (done : ℕ) → done ≤ length piece → length piece ≤ done → HasFirst file at piece done → 0 < length piece → Holds file at piece
holds_all file at piece done le ge has some = record {
  within = omega (arith, le, ge, has.within (omega (arith, ge, some)));
  each = λ i lt. has.each i (omega (arith, lt, ge));
}

-- the next part of the piece is written
pub has_more : (file : List ℕ) (at : ℕ) (piece : List ℕ) (done from put : ℕ) (rest : List ℕ) → from ≡ at + done → put ≤ length rest
    → ((i : ℕ) → i < length rest → slice_index rest i ≡ slice_index piece (done + i)) → HasFirst file at piece done → HasFirst (overlaid file from (take put rest)) at piece (done + put)
has_more file at piece done from put rest is few alike has =
    let taken : length (take put rest) ≡ put = omega (arith, length-take put rest, few) in
    let torn = Torn-overlaid file from (take put rest) in
    let holds = Holds-overlaid file from (take put rest) in
    record {
      within = λ some. omega (arith, holds.within, taken, is);
      each = λ i low. elim (cases_lt i done) [
        | inl early ↦ torn.below (at + i) (omega (arith, early, has.within (omega (arith, early)))) (omega (arith, early, is)) ∙ has.each i early
        | inr late ↦
            let here : at + i ≡ from + (i - done) = omega (arith, is, late) in
            let there : done + (i - done) ≡ i = omega (arith, late) in
            let inside : i - done < put = omega (arith, late, low) in
            ap (slice_index (overlaid file from (take put rest))) here ∙ holds.each (i - done) (omega (arith, inside, taken))
            ∙ get_or-take put rest (i - done) 0 inside ∙ alike (i - done) (omega (arith, inside, few)) ∙ ap (slice_index piece) there
      ];
    }

-- the next part is read: what the room had stays, and the new bytes are behind it
pub reads_more : (file : List ℕ) (at : ℕ) (room then_room got_room : List ℕ) (done from got : ℕ) → from ≡ at + done → got ≤ length got_room → Holds file from (take got got_room)
    → ((i : ℕ) → i < done → slice_index then_room i ≡ slice_index room i) → ((i : ℕ) → i < got → slice_index then_room (done + i) ≡ slice_index got_room i)
    → HasFirst file at room done → HasFirst file at then_room (done + got)
reads_more file at room then_room got_room done from got is few holds kept put has =
    let taken : length (take got got_room) ≡ got = omega (arith, length-take got got_room, few) in
    record {
      within = λ some. omega (arith, holds.within, taken, is);
      each = λ i low. elim (cases_lt i done) [
        | inl early ↦ has.each i early ∙ sym (kept i early)
        | inr late ↦
            let here : at + i ≡ from + (i - done) = omega (arith, is, late) in
            let there : done + (i - done) ≡ i = omega (arith, late) in
            let inside : i - done < got = omega (arith, late, low) in
            ap (slice_index file) here ∙ holds.each (i - done) (omega (arith, inside, taken)) ∙ get_or-take got got_room (i - done) 0 inside
            ∙ sym (put (i - done) inside) ∙ ap (slice_index then_room) there
      ];
    }
