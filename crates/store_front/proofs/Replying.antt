-- Replies to requests.
use Rattle.std.proofs.Common.{◌≡◌, ℕ, zero, suc, ◌<◌, ◌≤◌, ◌+◌, ◌-◌, ◌*◌, Bool, true, false, ◌==◌, if◌then◌else◌, List, [], ◌∷◌, ◌++◌, length, take, get_or, refl, sym, ap, ◌∙◌, subst, arith, inl, inr, Option}
use Rattle.std.specs.List.{All, flat_map, list_all, range_with_len}
use Rattle.std.proofs.lemmas.Bool.{cases_lt, and_right}
use Rattle.std.proofs.lemmas.List.{append-nil, flat_map_more, map-append, take_more}
use Rattle.std.proofs.lemmas.Grind.{flat_map-append}
use Rattle.quorum_rules.specs.Limits.{Numbers}
use Rattle.block_device.proofs.lemmas.Touching.{range_more}
use Rattle.nbd_front.specs.declared.request.Request.{Request}
use Rattle.nbd_front.specs.Requests.{request_of}
use Rattle.store_front.specs.Requests.{error_of}
use Rattle.store_front.specs.declared.round.Asked.{Asked}
use Rattle.store_front.specs.Rounds.{IsAsked, bytes_of, requests_of}
use Rattle.store_front.specs.Blocks.{first_of, end_of, blocks_of}
use Rattle.store_front.specs.Replies.{failed, is_done, answer_error}

all_in : (p : ℕ → Bool) (a n : ℕ) → ((k : ℕ) → a ≤ k → k < a + n → p k ≡ true) → list_all p (range_with_len a n) ≡ true
all_in p a zero h = refl
all_in p a (suc n) h = rw (h a (omega arith) (omega arith)) (all_in p (a + 1) n (λ k low high. h k (omega arith) (omega arith)))

not_all_in : (p : ℕ → Bool) (a n k : ℕ) → a ≤ k → k < a + n → p k ≡ false → list_all p (range_with_len a n) ≡ false
not_all_in p a zero k low high h = absurd (omega arith)
not_all_in p a (suc n) k low high h = elim (cases_lt a k) [
  | inl later ↦ and_right (p a) (list_all p (range_with_len (a + 1) n)) (not_all_in p (a + 1) n k (omega arith) (omega arith) h)
  | inr here ↦ let same : k ≡ a = omega arith in rw (subst (λ j. p j ≡ false) same h) refl
]

-- the error by that of the request, and whether all went well
abbrev chosen : ℕ → Bool → ℕ
chosen a b = if a == 0 then (if b then 0 else failed) else a

chosen_at : (a : ℕ) (b d : Bool) → a ≡ 0 → b ≡ d → chosen 0 d ≡ chosen a b
chosen_at a b d e h = ap (λ n. chosen n d) (sym e) ∙ ap (chosen a) (sym h)

module _ (c : Numbers) (read : ℕ → Option (List ℕ)) (wrote : ℕ → Bool) (r : Request) (well : error_of (c.size * c.blocks) r ≡ 0) where
  pub error_none : first_of c r ≤ end_of c r → ((k : ℕ) → first_of c r ≤ k → k < end_of c r → is_done read wrote r.kind k ≡ true) → 0 ≡ answer_error c read wrote r
  error_none order h = chosen_at (error_of (c.size * c.blocks) r) (list_all (is_done read wrote r.kind) (blocks_of c r)) true well (all_in (is_done read wrote r.kind) (first_of c r) (end_of c r - first_of c r) (λ k low high. h k low (omega arith)))

  pub error_some : (k : ℕ) → first_of c r ≤ k → k < end_of c r → is_done read wrote r.kind k ≡ false → 5 ≡ answer_error c read wrote r
  error_some k low high h = chosen_at (error_of (c.size * c.blocks) r) (list_all (is_done read wrote r.kind) (blocks_of c r)) false well (not_all_in (is_done read wrote r.kind) (first_of c r) (end_of c r - first_of c r) k low (omega arith) h)

pub data_more : (f : ℕ → List ℕ) (old now new : List ℕ) (first k : ℕ) → first ≤ k → now ≡ old ++ flat_map f (range_with_len first (k - first)) → new ≡ now ++ f k
    → new ≡ old ++ flat_map f (range_with_len first (k + 1 - first))
data_more f old now new first k low before here =
    let longer : (k - first) + 1 ≡ k + 1 - first = omega arith in
    let place : first + (k - first) ≡ k = omega arith in
    here
    ∙ ap (λ z. z ++ f k) before
    ∙ flat_map_more f old (range_with_len first (k - first)) k
    ∙ ap (λ z. old ++ flat_map f z) (sym (range_more first (k - first) k place))
    ∙ ap (λ n. old ++ flat_map f (range_with_len first n)) longer

-- one reply more
pub replies_more : (f : Request → List ℕ) (now new : List ℕ) (asked : List Asked) (next : Asked) → next.request ≡ request_of next.bytes.now
    → now ≡ flat_map (λ bytes. f (request_of bytes)) (requests_of asked) → new ≡ now ++ f next.request
    → new ≡ flat_map (λ bytes. f (request_of bytes)) (requests_of (asked ++ next ∷ []))
replies_more f now new asked next is before here =
    let g : List ℕ → List ℕ = λ bytes. f (request_of bytes) in
    let bytes = next.bytes.now in
    here
    ∙ ap (λ z. z ++ f next.request) before
    ∙ ap (λ r. flat_map g (requests_of asked) ++ f r) is
    ∙ ap (λ z. flat_map g (requests_of asked) ++ z) (sym (append-nil (g bytes)))
    ∙ sym (flat_map-append g (requests_of asked) (bytes ∷ []))
    ∙ ap (flat_map g) (sym (map-append bytes_of asked (next ∷ [])))

pub replies_at : (f : Request → List ℕ) (now new : List ℕ) (asked : List Asked) (i : ℕ) (d : Asked) → i < length asked → All IsAsked asked
    → now ≡ flat_map (λ bytes. f (request_of bytes)) (requests_of (take i asked)) → new ≡ now ++ f (get_or asked i d).request
    → new ≡ flat_map (λ bytes. f (request_of bytes)) (requests_of (take (i + 1) asked))
replies_at f now new asked i d high all before here =
    replies_more f now new (take i asked) (get_or asked i d) (all i d high).is before here
    ∙ ap (λ z. flat_map (λ bytes. f (request_of bytes)) (requests_of z)) (sym (take_more asked i d high))
