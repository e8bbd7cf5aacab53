-- Replies, and arrays after requests, by the kind of the request.
use Rattle.std.proofs.Common.{◌≡◌, ℕ, ◌+◌, ◌*◌, ◌<◌, ◌≤◌, ◌&&◌, ◌||◌, not, cond, eqb, ltb, leb, Bool, true, false, List, [], ◌++◌, length, refl, sym, ◌∙◌, ap, arith, slice_range, inl, inr}
use Rattle.std.proofs.lemmas.Bool.{cases_lt, cases_eq, eq-eqb, eqb-true, lt-leb, false_from_ne_true}
use Rattle.quorum_rules.specs.Limits.{Numbers}
use Rattle.block_device.specs.Device.{merged}
use Rattle.block_device.specs.Ranges.{is_touched}
use Rattle.nbd_front.specs.declared.request.Request.{Request}
use Rattle.nbd_front.specs.Replies.{error_of, reply_head}
use Rattle.nbd_front.specs.Sessions.{sent_of, reply_of, array_after, writes_to}

both : {X : Type 0} (a b : Bool) (x y : X) → a ≡ true → b ≡ true → cond (a && b) x y ≡ x
both a b x y h k = rw (h, k) refl

not_both : {X : Type 0} (a b : Bool) (x y : X) → (a ≡ true → b ≡ true → ⊥) → cond (a && b) x y ≡ y
not_both true true x y h = absurd (h refl refl)
not_both true false x y h = refl
not_both false b x y h = refl

all_of : (a b c : Bool) → a ≡ true → b ≡ true → c ≡ ((a && b) && c)
all_of true true c h k = refl
all_of true false c h k = absurd cc
all_of false b c h k = absurd cc

none_of : (a b c : Bool) → (a ≡ true → b ≡ true → ⊥) → ((a && b) && c) ≡ false
none_of true true c h = absurd (h refl refl)
none_of true false c h = refl
none_of false b c h = refl

abbrev error_by : Bool → Bool → Bool → Bool → ℕ
error_by a b c d = cond a 22 (cond b 0 (cond c 0 (cond d 28 22)))

never : (a b c d : Bool) → b ≡ false → c ≡ false → error_by a b c d ≡ 0 → ⊥
never true b c d hb hc e = absurd cc
never false true c d hb hc e = absurd cc
never false false true d hb hc e = absurd cc
never false false false true hb hc e = absurd cc
never false false false false hb hc e = absurd cc

module _ (array : List ℕ) (r : Request) where
  pub writes : (bytes : List ℕ) → r.kind ≡ 1 → error_of (length array) r ≡ 0 → array_after array r bytes ≡ merged array r.offset bytes
  writes bytes kind error = both (eqb r.kind 1) (eqb (error_of (length array) r) 0) _ _ (eq-eqb r.kind 1 kind) (eq-eqb _ 0 error)

  pub writes_not : (bytes : List ℕ) → (r.kind ≡ 1 → error_of (length array) r ≡ 0 → ⊥) → array_after array r bytes ≡ array
  writes_not bytes apart = not_both (eqb r.kind 1) (eqb (error_of (length array) r) 0) _ _ (λ k e. apart (eqb-true r.kind 1 k) (eqb-true (error_of (length array) r) 0 e))

  -- data that are those of a write that is served
  pub same_after : (bytes told : List ℕ) → (r.kind ≡ 1 → error_of (length array) r ≡ 0 → told ≡ bytes) → array_after array r told ≡ array_after array r bytes
  same_after bytes told same = elim (cases_eq r.kind 1) [
    | inl kind ↦ elim (cases_eq (error_of (length array) r) 0) [
      | inl error ↦ ap (array_after array r) (same kind error)
      | inr error ↦ writes_not told (λ k e. error e) ∙ sym (writes_not bytes (λ k e. error e))
    ]
    | inr kind ↦ writes_not told (λ k e. kind k) ∙ sym (writes_not bytes (λ k e. kind k))
  ]

  -- which blocks a write that is served writes; no other request writes any
  pub writes_blocks : (c : Numbers) → length array ≡ c.size * c.blocks → r.kind ≡ 1 → error_of (length array) r ≡ 0 → (k : ℕ) → is_touched c.size r.offset r.len k ≡ writes_to c r k
  writes_blocks c size kind error k =
      let e : error_of (c.size * c.blocks) r ≡ 0 = ap (λ n. error_of n r) (sym size) ∙ error in
      all_of (eqb r.kind 1) (eqb (error_of (c.size * c.blocks) r) 0) (is_touched c.size r.offset r.len k) (eq-eqb r.kind 1 kind) (eq-eqb (error_of (c.size * c.blocks) r) 0 e)

  pub writes_none : (c : Numbers) → length array ≡ c.size * c.blocks → (r.kind ≡ 1 → error_of (length array) r ≡ 0 → ⊥) → (k : ℕ) → writes_to c r k ≡ false
  writes_none c size apart k =
      none_of (eqb r.kind 1) (eqb (error_of (c.size * c.blocks) r) 0) (is_touched c.size r.offset r.len k)
      (λ kind error. apart (eqb-true r.kind 1 kind) (ap (λ n. error_of n r) size ∙ eqb-true (error_of (c.size * c.blocks) r) 0 error))

  pub sends : r.kind ≡ 0 → error_of (length array) r ≡ 0 → sent_of array r ≡ slice_range array r.offset (r.offset + r.len)
  sends kind error = both (eqb r.kind 0) (eqb (error_of (length array) r) 0) _ _ (eq-eqb r.kind 0 kind) (eq-eqb _ 0 error)

  pub sends_not : (r.kind ≡ 0 → error_of (length array) r ≡ 0 → ⊥) → sent_of array r ≡ []
  sends_not apart = not_both (eqb r.kind 0) (eqb (error_of (length array) r) 0) _ _ (λ k e. apart (eqb-true r.kind 0 k) (eqb-true (error_of (length array) r) 0 e))

  -- a request that is served, and no flush, has its range within the array
  pub within : (size : ℕ) → r.kind < 2 → error_of size r ≡ 0 → r.offset + r.len ≤ size
  within size kind error = elim (cases_lt size (r.offset + r.len)) [
    | inl over ↦ absurd (never (ltb 3 r.kind || not (eqb r.flags 0)) (eqb r.kind 3) (leb (r.offset + r.len) size) (eqb r.kind 1)
        (false_from_ne_true (eqb r.kind 3) (λ h. (let k = eqb-true r.kind 3 h in omega (arith, k, kind)))) (lt-leb (r.offset + r.len) size over) error)
    | inr fits ↦ fits
  ]

  -- a reply by its parts
  pub told : (first items more : List ℕ) (error size : ℕ) → size ≡ length array → error ≡ error_of size r → first ≡ reply_head error r.handle → more ≡ sent_of array r → items ≡ first ++ more → items ≡ reply_of array r
  told first items more error size same is head sent all =
      let e : error ≡ error_of (length array) r = is ∙ ap (λ n. error_of n r) same in
      all ∙ ap (λ z. z ++ more) (head ∙ ap (λ n. reply_head n r.handle) e) ∙ ap (λ z. reply_head (error_of (length array) r) r.handle ++ z) sent
