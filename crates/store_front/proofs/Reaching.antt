-- What a request that is served reaches.
use Rattle.std.proofs.Common.{◌≡◌, ℕ, ◌+◌, ◌*◌, ◌/◌, ◌<◌, ◌≤◌, Bool, true, false, if◌then◌else◌, inl, inr, refl, subst, arith}
use Rattle.std.specs.Int.{div_ceil}
use Rattle.std.proofs.lemmas.Bool.{cases_lt, and_parts, ltb-true, leb-true, eqb-true, ne_eqb}
use Rattle.std.proofs.lemmas.Grind.{div_ceil_times}
use Rattle.std.proofs.Math.Nat.{mul-le-mul_right, mul_comm}
use Rattle.quorum_rules.specs.Limits.{Numbers}
use Rattle.block_device.proofs.lemmas.Touching.{first_place, last_place}
use Rattle.nbd_front.specs.declared.request.Request.{Request}
use Rattle.store_front.specs.Requests.{has_range, error_of}
use Rattle.store_front.specs.Blocks.{is_served, end_of, piece_of, IsPiece, Reaches}

-- ---- a request that is served ends within the device
abbrev chosen : Bool → Bool → Bool → Bool → ℕ
chosen a b d w = if a then 22 else (if b then 0 else (if d then 0 else (if w then 28 else 22)))

tests : (a b d w : Bool) → chosen a b d w ≡ 0 → b ≡ false → d ≡ true
tests true b d w h e = cc
tests false true d w h e = cc
tests false false true w h e = refl
tests false false false true h e = cc
tests false false false false h e = cc

not_flush : (kind : ℕ) → has_range kind ≡ true → kind ≡ 3 → ⊥
not_flush kind ranged is = let flush : has_range 3 ≡ true = subst (λ k. has_range k ≡ true) is ranged in cc

pub error_within : (size : ℕ) (r : Request) → has_range r.kind ≡ true → error_of size r ≡ 0 → r.offset + r.len ≤ size
error_within size r ranged e = leb-true (r.offset + r.len) size (tests _ _ _ _ e (ne_eqb r.kind 3 (not_flush r.kind ranged)))

pub record Served (c : Numbers) (r : Request) : Type 0 where
  pub ranged : has_range r.kind ≡ true
  pub well : error_of (c.size * c.blocks) r ≡ 0
  pub some : 0 < r.len
  pub within : r.offset + r.len ≤ c.size * c.blocks

pub served : (c : Numbers) (r : Request) → is_served c r ≡ true → Served c r
served c r h =
    let both = and_parts _ _ h in
    let first = and_parts _ _ both.0 in
    let well = eqb-true (error_of (c.size * c.blocks) r) 0 first.1 in
    record { ranged = first.0; well = well; some = ltb-true 0 r.len both.1; within = error_within (c.size * c.blocks) r first.0 well }

-- ---- its blocks
pub end_within : (size blocks end : ℕ) → 0 < size → end ≤ size * blocks → div_ceil end size ≤ blocks
end_within size blocks end sized within =
    let most = div_ceil_times end size sized in
    elim (cases_lt blocks (div_ceil end size)) [
      | inl h ↦ absurd (let u = mul-le-mul_right size (let k : blocks + 1 ≤ div_ceil end size = omega arith in k) in let more : (blocks + 1) * size ≡ blocks * size + size = omega arith in omega (arith, u, most.1, more, within, mul_comm size blocks))
      | inr h ↦ h
    ]

pub first_before_end : (size start len : ℕ) → 0 < size → 0 < len → start / size < div_ceil (start + len) size
first_before_end size start len sized some =
    let most = div_ceil_times (start + len) size sized in
    elim (cases_lt (start / size) (div_ceil (start + len) size)) [
      | inl h ↦ h
      | inr h ↦ absurd (let u = mul-le-mul_right size h in omega (arith, u, most.0, first_place size start, some))
    ]

pub reaches : (c : Numbers) (r : Request) (k : ℕ) → is_served c r ≡ true → 0 < c.size → r.offset / c.size ≤ k → k < div_ceil (r.offset + r.len) c.size → Reaches c r k
reaches c r k h sized from to =
    let s = served c r h in
    let size = c.size in
    let end = r.offset + r.len in
    let most = div_ceil_times end size sized in
    let last = end_within size c.blocks end sized s.within in
    let upper : (k + 1) * size ≤ div_ceil end size * size = mul-le-mul_right size (omega (arith, to)) in
    let lower : (r.offset / size + 1) * size ≤ (k + 1) * size = mul-le-mul_right size (omega (arith, from)) in
    let more : (k + 1) * size ≡ k * size + size = omega arith in
    record {
      some = s.some;
      below = omega (arith, upper, most.1, more);
      above = omega (arith, lower, last_place size r.offset sized);
      within = s.within;
      there = omega (arith, last, to);
    }

pub ends_within : (c : Numbers) (r : Request) → 0 < c.size → end_of c r ≤ c.blocks
ends_within c r sized = elim (is_served c r) as (λ b. (is_served c r ≡ b) → (if b then div_ceil (r.offset + r.len) c.size else 0) ≤ c.blocks) [
  | true ↦ λ h. end_within c.size c.blocks (r.offset + r.len) sized (served c r h).within
  | false ↦ λ h. omega arith
] refl

-- ---- its bytes of a block
pub piece_fits : (c : Numbers) (r : Request) (k : ℕ) → 0 < c.size → Reaches c r k → IsPiece c.size r.len (piece_of c r k)
piece_fits c r k sized h =
    let more : (k + 1) * c.size ≡ k * c.size + c.size = omega arith in
    let below = h.below in
    let above = h.above in
    let some = h.some in
    record {
      some = omega (arith, below, above, some, more, sized);
      last = omega arith;
      order = omega (arith, below, above, some, more, sized);
      within = omega arith;
      same = omega (arith, below, above, some, more);
    }
