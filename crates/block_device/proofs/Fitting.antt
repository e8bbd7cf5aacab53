-- The steps of a command have their place in the cluster's blocks.
use Rattle.std.proofs.Common.{◌≡◌, ℕ, ◌+◌, ◌-◌, ◌*◌, ◌<◌, true, List, [], ◌∷◌, inl, inr, length, All, sym, subst, arith}
use Rattle.std.specs.List.{flat_map, filter, range_with_len}
use Rattle.std.proofs.lemmas.List.Elements.{All-nil, All-cons, All-append, All-filter, All-head, All-tail, filter_passes}
use Rattle.std.proofs.lemmas.List.FromFn.{length-range_with_len, get_or-range_with_len}
use Rattle.quorum_rules.specs.Limits.{Numbers}
use Rattle.wire_forms.specs.declared.device.DeviceOp.{DeviceOp}
use Rattle.wire_forms.specs.declared.device.DeviceOp.TheVariants.{Get, Put}
use Rattle.block_device.specs.Ranges.{start_of, len_of, is_touched, touched, bytes_in}
use Rattle.block_device.specs.Steps.{put_steps, steps_in, steps_of, Fits}
use Rattle.block_device.specs.declared.steps.BlockStep.TheVariants.{Read, Whole, Merge}
use Rattle.block_device.proofs.lemmas.Touching.{touched_then}
use Rattle.block_device.proofs.lemmas.Merges.{whole_or_partly, put_whole, put_partly, length-bytes_in}

All-flat_map : {X A : Type 0} (P : A → Type 0) (Q : X → Type 0) (f : X → List A) → ((x : X) → Q x → All P (f x)) → (xs : List X) → All Q xs → All P (flat_map f xs)
All-flat_map P Q f each [] h = All-nil P
All-flat_map P Q f each (x ∷ xs) h = All-append P (f x) (flat_map f xs) (each x (All-head Q x xs h)) (All-flat_map P Q f each xs (All-tail Q x xs h))

put_fits : (c : Numbers) (start : ℕ) (bytes : List ℕ) (k : ℕ) → k < c.blocks → k * c.size < start + length bytes → start < (k + 1) * c.size
    → All (Fits c) (put_steps c.size start bytes k)
put_fits c start bytes k below low high =
    let held = length-bytes_in c.size start bytes k low high in
    elim (whole_or_partly c.size start (length bytes) k) [
      | inl all ↦
          subst (All (Fits c)) (sym (put_whole c.size start bytes k all.0 all.1))
          (All-cons (Fits c) (Whole k (bytes_in c.size start bytes k)) [] (below, let a = all.0 in let b = all.1 in omega arith) (All-nil (Fits c)))
      | inr part ↦
          subst (All (Fits c)) (sym (put_partly c.size start bytes k part))
          (All-cons (Fits c) (Read k) (Merge k (start - k * c.size) (bytes_in c.size start bytes k) ∷ []) below
          (All-cons (Fits c) (Merge k (start - k * c.size) (bytes_in c.size start bytes k)) [] (below, omega arith) (All-nil (Fits c))))
    ]

steps_in_fit : (c : Numbers) (op : DeviceOp) (k : ℕ) → (k < c.blocks) × (is_touched c.size (start_of op) (len_of op) k ≡ true) → All (Fits c) (steps_in c.size op k)
steps_in_fit c (Get offset len) k h = All-cons (Fits c) (Read k) [] h.0 (All-nil (Fits c))
steps_in_fit c (Put offset bytes) k h = let t = touched_then c.size offset (length bytes) k h.1 in put_fits c offset bytes k h.0 t.0 t.1

all_below : (n : ℕ) → All (λ k. k < n) (range_with_len 0 n)
all_below n k d h =
    let l = length-range_with_len 0 n in
    subst (λ z. z < n) (sym (get_or-range_with_len 0 n k d (omega arith))) (omega arith)

pub steps_fit : (c : Numbers) (op : DeviceOp) → All (Fits c) (steps_of c op)
unfolding touched
steps_fit c op =
    let test = is_touched c.size (start_of op) (len_of op) in
    let all = range_with_len 0 c.blocks in
    let below = All-filter test (λ k. k < c.blocks) all (all_below c.blocks) in
    let passed = filter_passes test all in
    All-flat_map (Fits c) (λ k. (k < c.blocks) × (test k ≡ true)) (steps_in c.size op) (steps_in_fit c op) (filter test all) (λ i d h. (below i d h, passed i d h))
