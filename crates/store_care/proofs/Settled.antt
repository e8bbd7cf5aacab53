-- What is written again of blocks that were read, and which of them aren't settled.
use Rattle.std.proofs.Common.{◌≡◌, ◌≢◌, ◌<◌, ◌≤◌, ℕ, zero, suc, ◌+◌, Bool, true, false, not, cond, List, [], ◌∷◌, ◌++◌, length, take, Option, None, Some, refl, sym, ◌∙◌, ap, subst, arith, append_assoc}
use Rattle.std.specs.Prelude.{if◌then◌else◌}
use Rattle.std.specs.List.{All, slice_get}
use Rattle.std.proofs.lemmas.List.{append-nil}
use Rattle.std.proofs.lemmas.List.Elements.{All-cons, All-head, All-tail, All-nil}
use Rattle.std.proofs.lemmas.List.FromFn.{filter_of_map_range_with_len_more}
use Rattle.std.proofs.lemmas.List.Kept.{AllPairs-cons}
use Rattle.wire_forms.specs.declared.op.Op.{Op}
use Rattle.wire_forms.specs.declared.op.Op.TheVariants.{Read, Write}
use Rattle.wire_forms.specs.Ops.{Fits}
use Rattle.protocol.specs.Operations.{Outcome}
use Rattle.protocol.specs.Seen.{block_of}
use Rattle.disk_model.specs.Crash.{Pending}
use Rattle.store_device.specs.Stores.{SeenStore}
use Rattle.store_device.specs.Told.{AreApart}
use Rattle.store_care.specs.Batches.{AreBelow}
use Rattle.store_care.specs.Given.{Given, given}
use Rattle.store_care.specs.Settling.{Try, TriesLead, is_settled, unsettled, write_of, writes_by}
use Rattle.store_care.proofs.Looked.{was_given}
use Rattle.store_care.proofs.Rising.{rest_apart, first_apart}

module _ {D : Type 0} (store : SeenStore D) where
  -- one block more that is settled, or isn't
  pub one_more_unsettled : (first count block : ℕ) → first + count ≡ block
      → unsettled store first (count + 1) ≡ unsettled store first count ++ cond (not (is_settled store block)) (Read block ∷ []) []
  one_more_unsettled first count block e = filter_of_map_range_with_len_more (λ (op : Op). not (is_settled store (block_of op))) (λ (b : ℕ). Read b) first count block e

  pub one_more_settled : (first count block : ℕ) → first + count ≡ block → is_settled store block ≡ true → unsettled store first (count + 1) ≡ unsettled store first count
  one_more_settled first count block e is = one_more_unsettled first count block e ∙ at (is_settled store block) is
    where
      at : (b : Bool) → b ≡ true → unsettled store first count ++ cond (not b) (Read block ∷ []) [] ≡ unsettled store first count
      at true h = append-nil (unsettled store first count)
      at false h = cc

  pub one_more_to_settle : (first count block : ℕ) → first + count ≡ block → is_settled store block ≡ false
      → unsettled store first (count + 1) ≡ unsettled store first count ++ Read block ∷ []
  one_more_to_settle first count block e is = one_more_unsettled first count block e ∙ at (is_settled store block) is
    where
      at : (b : Bool) → b ≡ false → unsettled store first count ++ cond (not b) (Read block ∷ []) [] ≡ unsettled store first count ++ Read block ∷ []
      at false h = refl
      at true h = cc

  -- what is so with and without a write of a block's length is so of what is written
  written_or_not : (Q : List Op → Type 0) (op : Op) (o : Option Outcome) (rest : List Op)
      → Q rest → ((value : List ℕ) → length value ≡ store.config.size → Q (Write (block_of op) value ∷ rest))
      → Q (write_of store (block_of op) (given store.config.size o) ++ rest)
  written_or_not Q op o rest without with_it = at (given store.config.size o) (λ gave is. (was_given store.config.size o gave is).block)
    where
      by : (value : List ℕ) → length value ≡ store.config.size → (b : Bool) → Q ((if b then [] else (Write (block_of op) value ∷ [])) ++ rest)
      by value len true = without
      by value len false = with_it value len

      at : (g : Option Given) → ((gave : Given) → g ≡ Some gave → length gave.value ≡ store.config.size) → Q (write_of store (block_of op) g ++ rest)
      at None len = without
      at (Some gave) len = by gave.value (len gave refl) (is_settled store (block_of op))

  -- what is so of each block that was read is so of each that is written
  of_blocks : (P : ℕ → Type 0) (reads : List Op) (outcomes : List (Option Outcome)) → All (λ op. P (block_of op)) reads
      → All (λ op. P (block_of op)) (writes_by store reads outcomes)
  of_blocks P [] outcomes all = All-nil (λ (o : Op). P (block_of o))
  of_blocks P (op ∷ reads) [] all = All-nil (λ (o : Op). P (block_of o))
  of_blocks P (op ∷ reads) (outcome ∷ outcomes) all =
      let more = writes_by store reads outcomes in
      let rest = of_blocks P reads outcomes (All-tail (λ (o : Op). P (block_of o)) op reads all) in
      written_or_not (All (λ (o : Op). P (block_of o))) op outcome more rest
      (λ value len. All-cons (λ (o : Op). P (block_of o)) (Write (block_of op) value) more (All-head (λ (o : Op). P (block_of o)) op reads all) rest)

  apart : (reads : List Op) (outcomes : List (Option Outcome)) → AreApart reads → AreApart (writes_by store reads outcomes)
  apart [] outcomes h = λ i j d lt within. absurd (omega arith)
  apart (op ∷ reads) [] h = λ i j d lt within. absurd (omega arith)
  apart (op ∷ reads) (outcome ∷ outcomes) h =
      let more = writes_by store reads outcomes in
      let rest = apart reads outcomes (rest_apart op reads h) in
      written_or_not AreApart op outcome more rest
      (λ value len. AllPairs-cons (λ (p q : Op). block_of p ≢ block_of q) (Write (block_of op) value) more
      (of_blocks (λ b. block_of op ≢ b) reads outcomes (first_apart op reads h)) rest)

  fit : (reads : List Op) (outcomes : List (Option Outcome)) → All (λ op. block_of op < store.config.blocks) reads → All (Fits store.config) (writes_by store reads outcomes)
  fit [] outcomes all = All-nil (Fits store.config)
  fit (op ∷ reads) [] all = All-nil (Fits store.config)
  fit (op ∷ reads) (outcome ∷ outcomes) all =
      let Below = λ (o : Op). block_of o < store.config.blocks in
      let more = writes_by store reads outcomes in
      let rest = fit reads outcomes (All-tail Below op reads all) in
      written_or_not (All (Fits store.config)) op outcome more rest
      (λ value len. All-cons (Fits store.config) (Write (block_of op) value) more (All-head Below op reads all, len) rest)

  -- the writes are a batch
  pub writes_below : (reads : List Op) (outcomes : List (Option Outcome)) → AreBelow store.config store.config.blocks reads
      → AreBelow store.config store.config.blocks (writes_by store reads outcomes)
  writes_below reads outcomes h = record {
    apart = apart reads outcomes h.apart;
    fits = fit reads outcomes h.below;
    below = of_blocks (λ b. b < store.config.blocks) reads outcomes h.below;
  }

  pub no_more : (reads : List Op) (outcomes : List (Option Outcome)) → length (writes_by store reads outcomes) ≤ length reads
  no_more [] outcomes = omega arith
  no_more (op ∷ reads) [] = omega arith
  no_more (op ∷ reads) (outcome ∷ outcomes) =
      let rest = no_more reads outcomes in
      written_or_not (λ (ops : List Op). length ops ≤ length (op ∷ reads)) op outcome (writes_by store reads outcomes) (omega (arith, rest)) (λ value len. omega (arith, rest))

  -- the write by one read, if its outcome is there
  abbrev pub write_at : Op → Option (Option Outcome) → List Op
  write_at op None = []
  write_at op (Some outcome) = write_of store (block_of op) (given store.config.size outcome)

  -- one read more
  pub one_more_read : (reads : List Op) (outcomes : List (Option Outcome)) (k : ℕ) (op : Op) → slice_get reads k ≡ Some op
      → writes_by store (take (k + 1) reads) outcomes ≡ writes_by store (take k reads) outcomes ++ write_at op (slice_get outcomes k)
  one_more_read reads outcomes k op is = let next : k + 1 ≡ suc k = omega arith in ap (λ (n : ℕ). writes_by store (take n reads) outcomes) next ∙ at reads outcomes k op is
    where
      at : (reads : List Op) (outcomes : List (Option Outcome)) (k : ℕ) (op : Op) → slice_get reads k ≡ Some op
          → writes_by store (take (suc k) reads) outcomes ≡ writes_by store (take k reads) outcomes ++ write_at op (slice_get outcomes k)
      at [] outcomes k op is = absurd (cc)
      at (x ∷ reads) [] zero op is = sym (append-nil [])
      at (x ∷ reads) [] (suc k) op is = sym (append-nil [])
      at (x ∷ reads) (o ∷ outcomes) zero op is =
          let same : x ≡ op = cc in append-nil (write_at x (Some o)) ∙ ap (λ (y : Op). write_at y (Some o)) same
      at (x ∷ reads) (o ∷ outcomes) (suc k) op is =
          ap (λ (l : List Op). write_at x (Some o) ++ l) (at reads outcomes k op is)
          ∙ sym (append_assoc (write_at x (Some o)) (writes_by store (take k reads) outcomes) (write_at op (slice_get outcomes k)))

module _ {D : Type 0} (pending : D → Pending) (seen : D → List ℕ) (capacity : D → ℕ) (moment : D → ℕ) (left_since : D → ℕ → List ℕ → Type 0) where
  -- tries after tries
  pub tries_then : (tries more : List (Try D)) (old mid new : SeenStore D)
      → TriesLead pending seen capacity moment left_since old tries mid → TriesLead pending seen capacity moment left_since mid more new
      → TriesLead pending seen capacity moment left_since old (tries ++ more) new
  tries_then [] more old mid new same h = subst (λ (s : SeenStore D). TriesLead pending seen capacity moment left_since s more new) same h
  tries_then (one ∷ tries) more old mid new are h = (are.0, are.1, tries_then tries more one.store mid new are.2 h)
