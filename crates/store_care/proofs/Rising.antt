-- Operations on blocks that rise are one batch.
use Rattle.std.proofs.Common.{◌≢◌, ℕ, suc, ◌+◌, ◌<◌, ◌≤◌, List, [], ◌∷◌, ◌++◌, arith}
use Rattle.std.specs.List.{All}
use Rattle.std.proofs.lemmas.List.Elements.{All-head, All-tail, All-push, All-weaker, All-nil}
use Rattle.std.proofs.lemmas.List.Kept.{AllPairs-cons}
use Rattle.quorum_rules.specs.Limits.{Numbers}
use Rattle.wire_forms.specs.declared.op.Op.{Op}
use Rattle.wire_forms.specs.Ops.{Fits}
use Rattle.protocol.specs.Seen.{block_of}
use Rattle.store_device.specs.Told.{AreApart}
use Rattle.store_care.specs.Batches.{AreBelow}

abbrev Differ : Op → Op → Type 0
Differ op other = block_of op ≢ block_of other

pub rest_apart : (x : Op) (xs : List Op) → AreApart (x ∷ xs) → AreApart xs
rest_apart x xs h i j d lt within = h (suc i) (suc j) d (omega arith) (omega arith)

pub first_apart : (x : Op) (xs : List Op) → AreApart (x ∷ xs) → All (Differ x) xs
first_apart x xs h k d within = h 0 (suc k) d (omega arith) (omega arith)

apart_push : (xs : List Op) (y : Op) → AreApart xs → All (λ op. block_of op < block_of y) xs → AreApart (xs ++ y ∷ [])
apart_push [] y h below = λ i j d lt within. absurd (omega arith)
apart_push (x ∷ xs) y h below =
    let lt : block_of x < block_of y = All-head (λ (op : Op). block_of op < block_of y) x xs below in
    AllPairs-cons Differ x (xs ++ y ∷ [])
    (All-push (Differ x) xs y (first_apart x xs h) (λ e. omega arith))
    (apart_push xs y (rest_apart x xs h) (All-tail (λ (op : Op). block_of op < block_of y) x xs below))

-- no operations are a batch
pub none_below : (c : Numbers) (end : ℕ) → AreBelow c end []
none_below c end = record { apart = λ i j d lt within. absurd (omega arith); fits = All-nil (Fits c); below = All-nil (λ (op : Op). block_of op < end) }

-- one more above the others
pub one_above : (c : Numbers) (ops : List Op) (op : Op) → AreBelow c (block_of op) ops → Fits c op → AreBelow c (block_of op + 1) (ops ++ op ∷ [])
one_above c ops op h fits = record {
  apart = apart_push ops op h.apart h.below;
  fits = All-push (Fits c) ops op h.fits fits;
  below = All-push (λ (o : Op). block_of o < block_of op + 1) ops op (All-weaker (λ (o : Op). block_of o < block_of op) (λ (o : Op). block_of o < block_of op + 1) (λ o lt. omega arith) ops h.below) (omega arith);
}

-- a batch below a block is one below a later block
pub below_later : (c : Numbers) (ops : List Op) (end later : ℕ) → end ≤ later → AreBelow c end ops → AreBelow c later ops
below_later c ops end later le h = record {
  apart = h.apart;
  fits = h.fits;
  below = All-weaker (λ (o : Op). block_of o < end) (λ (o : Op). block_of o < later) (λ o lt. omega arith) ops h.below;
}
