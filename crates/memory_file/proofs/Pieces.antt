-- What was put over bytes is there.
use Rattle.std.proofs.Common.{◌≡◌, ℕ, ◌+◌, ◌≤◌, min, List, length, take, drop, refl, sym, ◌∙◌, subst, arith, length-take, length-drop}
use Rattle.std.proofs.lemmas.List.{get_or-take, get_or-drop}
use Rattle.sqlite_disk.specs.Disk.{Torn, Holds}
use Rattle.disk_model.specs.Crash.{overwritten}
use Rattle.disk_model.proofs.lemmas.Crash.{length_overwritten, overwritten_inside}
use Rattle.memory_file.specs.Pieces.{put_piece}
use Rattle.memory_file.specs.Laws.{torn_put}

-- a wider range may be torn too
pub torn_wider : (b c : List ℕ) (at m n : ℕ) → m ≤ n → Torn at m b c → Torn at n b c
torn_wider b c at m n le t = record {
  no_shorter = t.no_shorter;
  no_longer = omega (arith, t.no_longer, le);
  below = t.below;
  above = λ i lt behind. t.above i lt (omega (arith, behind, le));
}

-- bytes are no other than themselves
pub torn_itself : (b : List ℕ) (at n : ℕ) → Torn at n b b
torn_itself b at n = record { no_shorter = omega arith; no_longer = omega arith; below = λ i lt before. refl; above = λ i lt behind. refl }

-- a piece that is no longer than the range
pub torn_part : (b : List ℕ) (at : ℕ) (piece : List ℕ) (n : ℕ) (c : List ℕ) → c ≡ put_piece b at piece → length piece ≤ n → Torn at n b c
torn_part b at piece n c is le = torn_wider b c at (length piece) n le (subst (λ (d : List ℕ). Torn at (length piece) b d) (sym is) (torn_put b at piece))

holds_over : (b : List ℕ) (at : ℕ) (piece : List ℕ) → at ≤ length b → Holds (overwritten b at piece) at piece
holds_over b at piece le = record {
  within = omega (arith, length_overwritten b at piece le);
  each = λ i lt. overwritten_inside b at piece i le lt;
}

-- what was put is there
pub holds_put : (b : List ℕ) (at : ℕ) (piece : List ℕ) → at + length piece ≤ length b → Holds (put_piece b at piece) at piece
holds_put b at piece fits =
    let same : min at (length b) ≡ at = omega (arith, fits) in
    subst (λ (k : ℕ). Holds (overwritten b k piece) at piece) (sym same) (holds_over b at piece (omega (arith, fits)))

-- a part of the bytes is there
pub holds_part : (b : List ℕ) (at n : ℕ) → at + n ≤ length b → Holds b at (take n (drop at b))
holds_part b at n fits =
    let long : length (take n (drop at b)) ≡ n = omega (arith, length-take n (drop at b), length-drop at b, fits) in
    record {
      within = omega (arith, long, fits);
      each = λ i lt. sym (get_or-take n (drop at b) i 0 (omega (arith, long, lt)) ∙ get_or-drop at b i 0);
    }
