-- What one more call does, whatever the file held at first.
use Rattle.std.proofs.Common.{inl, inr, ℕ, ◌+◌, ◌<◌, ◌≤◌, Bool, true, false, ◌&&◌, ◌==◌, if◌then◌else◌, IsTrue, List, ◌∷◌, length, take, refl, arith}
use Rattle.std.proofs.lemmas.Bool.{and_parts, eqb-true}
use Rattle.sqlite_disk.specs.Disk.{Torn}
use Rattle.sqlite_disk.specs.Events.{Event, replay, measured, read, written, cut, flushed, overlaid, padded}
use Rattle.sqlite_disk.proofs.EventLemmas.{Torn-within, length-padded, Cut-padded}
use Rattle.system_file.specs.Outcomes.{LeftBySync, Leaves}
use Rattle.system_file.specs.Laws.{torn_itself, torn_part, seen_stays}
use Rattle.system_file.specs.Doings.{LooksOnly, WritesAt, Lengthens}
use Rattle.system_file.proofs.Going.{goes_nowhere, goes_one, goes_more}

module _ (start : List ℕ) (old : List Event) where
  pub looks_nowhere : LooksOnly start old old
  looks_nowhere = record { seen = refl; usable = refl; clean = λ h. h; left = λ c may. may; time = goes_nowhere start old }

  pub looks_more : (now : List Event) (from count : ℕ) (ok : Bool) (bytes : List ℕ) → LooksOnly start old now → LooksOnly start old (read from count ok bytes ∷ now)
  looks_more now from count ok bytes so_far = record {
    seen = so_far.seen;
    usable = so_far.usable;
    clean = λ h. so_far.clean (and_parts _ _ h).0;
    left = so_far.left;
    time = goes_more start (read from count ok bytes) old now so_far.time (λ c may. may);
  }

  pub writes_nowhere : (at n : ℕ) → WritesAt at n start old old
  writes_nowhere at n = record {
    seen = torn_itself at n (replay start old).seen;
    usable = refl;
    clean = refl;
    left = λ c may. (c, may, torn_itself at n c);
    time = goes_nowhere start old;
  }

  -- a part of what is written, or nothing where the call fails
  seen_then : (at n : ℕ) (now : List ℕ) (from put : ℕ) (rest : List ℕ) (ok : Bool) → at ≤ from → from + length rest ≤ at + n → Torn at n (replay start old).seen now
      → Torn at n (replay start old).seen (if ok then overlaid now from (take put rest) else now)
  seen_then at n now from put rest true low high torn = Torn-within at n from (length rest) _ now _ low high torn (torn_part from put now rest)
  seen_then at n now from put rest false low high torn = torn

  pub writes_more : (at n : ℕ) (now : List Event) (from put : ℕ) (rest : List ℕ) (ok : Bool) → at ≤ from → from + length rest ≤ at + n → WritesAt at n start old now
      → WritesAt at n start old (written from rest ok put ∷ now)
  writes_more at n now from put rest ok low high so_far = record {
    seen = seen_then at n (replay start now).seen from put rest ok low high so_far.seen;
    usable = so_far.usable;
    clean = so_far.clean;
    left = λ c may.
        let before = so_far.left may.0 may.1 in
        (before.0, before.1, Torn-within at n from (length rest) before.0 may.0 c low high before.2 may.2);
    time = goes_more start (written from rest ok put) old now so_far.time (λ c may. (c, may, torn_itself from (length rest) c));
  }

  -- a length that is asked for and is enough, or isn't told
  pub lengthens_nowhere : (len n : ℕ) (ok : Bool) → Lengthens len start old (measured ok n ∷ old)
  lengthens_nowhere len n ok = record {
    seen = λ h. torn_itself len 0 (replay start old).seen;
    usable = refl;
    clean = λ h. (and_parts _ _ h).0;
    left = λ h c may. (c, may, torn_itself len 0 c);
    time = goes_one start (measured ok n) old;
  }

  torn_padded : (len : ℕ) (b : List ℕ) → length b ≤ len → Torn len 0 b (padded b len)
  torn_padded len b short =
      let is = length-padded b len in
      let same = Cut-padded b len in
      record {
        no_shorter = omega (arith, is, short);
        no_longer = omega (arith, is);
        below = same.below;
        above = λ i lt high. absurd (omega (arith, short, lt, high));
      }

  resized : (len : ℕ) (b : List ℕ) (ok : Bool) → length b ≤ len → Torn len 0 b (if ok then padded b len else b)
  resized len b true short = torn_padded len b short
  resized len b false short = torn_itself len 0 b

  -- a length that is set, where the file was shorter
  pub lengthens_then : (len n : ℕ) (ok : Bool) (is_full : ℕ) → n < len → Lengthens len start old (cut len ok is_full ∷ measured true n ∷ old)
  lengthens_then len n ok is_full short =
      let torn = λ (h : IsTrue ((replay start old).is_honest && (n == length (replay start old).seen))).
      resized len (replay start old).seen ok (omega (arith, short, eqb-true n (length (replay start old).seen) (and_parts (replay start old).is_honest (n == length (replay start old).seen) h).1)) in
      record {
        seen = torn;
        usable = refl;
        clean = λ h. (and_parts _ _ h).0;
        left = λ h c may. elim may [
          | inl all ↦ ((replay start old).seen, seen_stays start old, rw all (torn h))
          | inr part ↦ part
        ];
        time = goes_more start (cut len ok is_full) old (measured true n ∷ old) (goes_one start (measured true n) old) (λ c may. inr (c, may, torn_itself len 0 c));
      }

  pub long_then : (len n is_full : ℕ) → IsTrue (replay start (cut len true is_full ∷ measured true n ∷ old)).is_honest → len ≤ length (replay start (cut len true is_full ∷ measured true n ∷ old)).seen
  long_then len n is_full h = omega (arith, length-padded (replay start old).seen len)

left_by_sync : (safe : Bool) (seen : List ℕ) (P : List ℕ → Type 0) → P seen → (c : List ℕ) → LeftBySync safe seen P c → P c
left_by_sync true seen P p c same = rw same p
left_by_sync false seen P p c left = left

-- a sync leaves nothing that couldn't be left before it
pub sync_leaves : (start : List ℕ) (h : List Event) (ok : Bool) (is_full : ℕ) (c : List ℕ) → Leaves start (flushed ok is_full ∷ h) c → Leaves start h c
sync_leaves start h ok is_full c left = left_by_sync ((replay start h).is_usable && ok) (replay start h).seen (Leaves start h) (seen_stays start h) c left
