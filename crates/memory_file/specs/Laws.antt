-- The laws of a file in memory.
use Rattle.std.proofs.Common.{◌≡◌, ℕ, ◌+◌, ◌-◌, ◌≤◌, min, List, [], ◌∷◌, ◌++◌, length, take, refl, sym, subst, arith, length-append}
use Rattle.std.specs.Prelude.{replicate}
use Rattle.std.proofs.lemmas.List.{get_or_append_left, length-replicate, take_all}
use Rattle.sqlite_disk.specs.Disk.{Torn}
use Rattle.disk_model.proofs.lemmas.Crash.{length_overwritten, overwritten_before, overwritten_behind}
use Rattle.memory_file.specs.declared.step.Step.{Step}
use Rattle.memory_file.specs.declared.step.Step.TheVariants.{Wrote, Lengthened, Synced}
use Rattle.memory_file.specs.Pieces.{put_piece, lengthened}
use Rattle.memory_file.specs.Steps.{seen_after, Tears, LeftAfter, replayed, LeftBy, Recorded, seen_of, moment_of, Leaves, LeftSince}

-- a piece tears the bytes that it is put over no further than its range
pub torn_put : (b : List ℕ) (at : ℕ) (piece : List ℕ) → Torn at (length piece) b (put_piece b at piece)
torn_put b at piece =
    let m : ℕ = min at (length b) in
    let le : m ≤ length b = omega arith in
    let long = length_overwritten b m piece le in
    record {
      no_shorter = omega (arith, long);
      no_longer = omega (arith, long);
      below = λ i lt before. overwritten_before b m piece i le (omega (arith, lt, before));
      above = λ i lt behind. overwritten_behind b m piece i le (omega (arith, behind));
    }

pub torn_longer : (b : List ℕ) (len : ℕ) → Torn len 0 b (lengthened b len)
torn_longer b len =
    let more : List ℕ = replicate (len - length b) 0 in
    let long : length (b ++ more) ≡ length b + (len - length b) = omega (arith, length-append b more, length-replicate {A = ℕ} (len - length b) 0) in
    record {
      no_shorter = omega (arith, long);
      no_longer = omega (arith, long);
      below = λ i lt before. get_or_append_left b more 0 i lt;
      above = λ i lt behind. get_or_append_left b more 0 i lt;
    }

pub step_tears : (s : Step) (b : List ℕ) → Tears s b b (seen_after s b)
step_tears (Wrote at piece) b = torn_put b at piece
step_tears (Lengthened len) b = torn_longer b len
step_tears Synced b = refl

stays : (b : List ℕ) (P : List ℕ → Type 0) (ss : List Step) → P b → LeftBy b P ss (replayed b ss)
stays b P [] p = p
stays b P (s ∷ ss) p = stays (seen_after s b) (LeftAfter s b P) ss (b, p, step_tears s b)

-- what was written may stay
pub seen_stays : (f : Recorded) → Leaves f (seen_of f)
seen_stays f = stays f.first (λ b. b ≡ f.first) f.steps refl

-- the moments of a file
pub counts : (f : Recorded) (t : ℕ) (c : List ℕ) → t ≤ moment_of f → Leaves f c → LeftSince f t c
counts f t c le may =
    let all : take (length f.steps) f.steps ≡ f.steps = take_all (length f.steps) f.steps (omega arith) in
    (length f.steps, le, omega arith, subst (λ (ss : List Step). LeftBy f.first (λ b. b ≡ f.first) ss c) (sym all) may)

pub nothing_more : (f : Recorded) (c : List ℕ) → LeftSince f (moment_of f) c → Leaves f c
nothing_more f c left =
    let all : take left.0 f.steps ≡ f.steps = take_all left.0 f.steps left.1 in
    subst (λ (ss : List Step). LeftBy f.first (λ b. b ≡ f.first) ss c) all left.3
