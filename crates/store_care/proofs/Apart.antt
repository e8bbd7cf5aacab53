-- The prunes that reads allow are of blocks of their own.
use Rattle.std.proofs.Common.{◌≡◌, ◌≢◌, ℕ, zero, suc, ◌+◌, List, [], ◌∷◌, ◌++◌, take, Option, None, Some, sym, ◌∙◌, ap, arith, append_assoc}
use Rattle.std.specs.List.{All, slice_get}
use Rattle.std.proofs.lemmas.List.{append-nil}
use Rattle.std.proofs.lemmas.List.Elements.{All-cons, All-head, All-tail, All-nil}
use Rattle.std.proofs.lemmas.List.Kept.{AllPairs-cons}
use Rattle.wire_forms.specs.declared.op.Op.{Op}
use Rattle.run_words.specs.declared.outcome.Outcome.TheVariants.{Gave, Outvoted, Spent, Wrote}
use Rattle.protocol.specs.Operations.{Outcome}
use Rattle.protocol.specs.Seen.{block_of}
use Rattle.version_disk.specs.declared.prune.Prune.{Prune}
use Rattle.store_device.specs.Told.{AreApart}
use Rattle.store_device.specs.Seating.{ArePrunesApart}
use Rattle.store_care.specs.Prunes.{prune_by, prunes_by}
use Rattle.store_care.proofs.Rising.{rest_apart, first_apart}

-- what is so of each block that is read is so of each that is pruned
pub of_blocks : (P : ℕ → Type 0) (reads : List Op) (outcomes : List (Option Outcome)) → All (λ op. P (block_of op)) reads → All (λ p. P p.block) (prunes_by reads outcomes)
of_blocks P [] outcomes all = All-nil (λ (p : Prune). P p.block)
of_blocks P (op ∷ reads) [] all = All-nil (λ (p : Prune). P p.block)
of_blocks P (op ∷ reads) (outcome ∷ outcomes) all =
    at outcome (All-head (λ (o : Op). P (block_of o)) op reads all) (of_blocks P reads outcomes (All-tail (λ (o : Op). P (block_of o)) op reads all))
  where
    at : (o : Option Outcome) → P (block_of op) → All (λ p. P p.block) (prunes_by reads outcomes) → All (λ p. P p.block) (prune_by op o ++ prunes_by reads outcomes)
    at None here rest = rest
    at (Some (Wrote stamp)) here rest = rest
    at (Some Spent) here rest = rest
    at (Some (Outvoted nodes)) here rest = rest
    at (Some (Gave stamp value how rounds)) here rest = All-cons (λ (p : Prune). P p.block) (record { block = block_of op; stamp = stamp }) (prunes_by reads outcomes) here rest

pub prunes_apart : (reads : List Op) (outcomes : List (Option Outcome)) → AreApart reads → ArePrunesApart (prunes_by reads outcomes)
prunes_apart [] outcomes apart = λ i j d lt within. absurd (omega arith)
prunes_apart (op ∷ reads) [] apart = λ i j d lt within. absurd (omega arith)
prunes_apart (op ∷ reads) (outcome ∷ outcomes) apart =
    at outcome (of_blocks (λ b. block_of op ≢ b) reads outcomes (first_apart op reads apart)) (prunes_apart reads outcomes (rest_apart op reads apart))
  where
    at : (o : Option Outcome) → All (λ p. block_of op ≢ p.block) (prunes_by reads outcomes) → ArePrunesApart (prunes_by reads outcomes) → ArePrunesApart (prune_by op o ++ prunes_by reads outcomes)
    at None differ rest = rest
    at (Some (Wrote stamp)) differ rest = rest
    at (Some Spent) differ rest = rest
    at (Some (Outvoted nodes)) differ rest = rest
    at (Some (Gave stamp value how rounds)) differ rest =
        AllPairs-cons (λ (p q : Prune). p.block ≢ q.block) (record { block = block_of op; stamp = stamp }) (prunes_by reads outcomes) differ rest

-- the prune by one read, if its outcome is there
abbrev pub prune_at : Op → Option (Option Outcome) → List Prune
prune_at op None = []
prune_at op (Some outcome) = prune_by op outcome

-- one read more
pub one_more : (reads : List Op) (outcomes : List (Option Outcome)) (k : ℕ) (op : Op) → slice_get reads k ≡ Some op
    → prunes_by (take (k + 1) reads) outcomes ≡ prunes_by (take k reads) outcomes ++ prune_at op (slice_get outcomes k)
one_more reads outcomes k op is = let next : k + 1 ≡ suc k = omega arith in ap (λ (n : ℕ). prunes_by (take n reads) outcomes) next ∙ at reads outcomes k op is
  where
    at : (reads : List Op) (outcomes : List (Option Outcome)) (k : ℕ) (op : Op) → slice_get reads k ≡ Some op
        → prunes_by (take (suc k) reads) outcomes ≡ prunes_by (take k reads) outcomes ++ prune_at op (slice_get outcomes k)
    at [] outcomes k op is = absurd (cc)
    at (x ∷ reads) [] zero op is = sym (append-nil [])
    at (x ∷ reads) [] (suc k) op is = sym (append-nil [])
    at (x ∷ reads) (o ∷ outcomes) zero op is = let same : x ≡ op = cc in append-nil (prune_by x o) ∙ ap (λ (y : Op). prune_by y o) same
    at (x ∷ reads) (o ∷ outcomes) (suc k) op is =
        ap (λ (l : List Prune). prune_by x o ++ l) (at reads outcomes k op is)
        ∙ sym (append_assoc (prune_by x o) (prunes_by (take k reads) outcomes) (prune_at op (slice_get outcomes k)))
