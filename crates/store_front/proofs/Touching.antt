-- Requests that may be done together.
use Rattle.std.proofs.Common.{◌≡◌, ℕ, ◌+◌, ◌/◌, ◌<◌, ◌≤◌, Bool, true, false, ◌&&◌, ◌||◌, nat_le, nat_lt, if◌then◌else◌, List, [], ◌∷◌, ◌++◌, get_or, refl, sym, ap, ◌∙◌, subst, arith, inl, inr}
use Rattle.std.specs.List.{All, AllPairs, list_any}
use Rattle.std.specs.Int.{div_ceil}
use Rattle.std.specs.Ordering.{nat_cmp, match_ordering}
use Rattle.std.specs.declared.cmp.Ordering.{Ordering}
use Rattle.std.specs.declared.cmp.Ordering.TheVariants.{Less, Equal, Greater}
use Rattle.std.specs.Cmp.{nat_cmp_is}
use Rattle.std.specs.BTreeMap.{is_at}
use Rattle.std.specs.BTreeSet.{BTreeSet, insert_key}
use Rattle.std.proofs.lemmas.Bool.{cases_eq, and_parts, ltb-true, leb-true, ne_eqb}
use Rattle.std.proofs.lemmas.List.{map-append}
use Rattle.std.proofs.lemmas.List.Elements.{All-append, All-from_recursion}
use Rattle.std.proofs.lemmas.List.Quantifiers.{all_pairs_push}
use Rattle.quorum_rules.specs.Limits.{Numbers}
use Rattle.nbd_front.specs.declared.request.Request.{Request}
use Rattle.nbd_front.specs.Requests.{request_of}
use Rattle.nbd_front.specs.Sessions.{read_kind}
use Rattle.store_front.specs.declared.round.Touched.{Touched}
use Rattle.store_front.specs.Requests.{changes, has_range}
use Rattle.store_front.specs.Blocks.{is_served, first_of, end_of, touches}
use Rattle.store_front.specs.declared.round.Asked.{Asked}
use Rattle.store_front.specs.Rounds.{AreSeparate, bytes_of, requests_of}
use Rattle.store_front.specs.Values.{written_of as has}
use Rattle.store_front.specs.Touching.{IsFree, HasRoom, Knows, KnowsMore, HasTouched}
use Rattle.store_front.proofs.Reaching.{served}

-- ---- sets that a block was added to
is_here : (x : ℕ) → is_at (nat_cmp x) x ≡ true
is_here x = rw (sym (nat_cmp_is x x Equal refl)) refl

or_right : (a b : Bool) → b ≡ true → (a || b) ≡ true
or_right true b h = refl
or_right false b h = h

or_more : (a b c : Bool) → (b ≡ true → c ≡ true) → (a || b) ≡ true → (a || c) ≡ true
or_more true b c f h = refl
or_more false b c f h = f h

has_new : (ks : List ℕ) (k : ℕ) → list_any (is_at (nat_cmp k)) (insert_key nat_cmp ks k) ≡ true
has_new [] k = rw (is_here k) refl
has_new (x ∷ xs) k = by_order (nat_cmp k x) refl (has_new xs k)
  where
    by_order : (o : Ordering) → nat_cmp k x ≡ o → list_any (is_at (nat_cmp k)) (insert_key nat_cmp xs k) ≡ true
        → list_any (is_at (nat_cmp k)) (match_ordering o (k ∷ x ∷ xs) (x ∷ xs) (x ∷ insert_key nat_cmp xs k)) ≡ true
    by_order Less e more = rw (is_here k) refl
    by_order Equal e more = rw e refl
    by_order Greater e more = or_right (is_at (nat_cmp k) x) _ more

has_still : (ks : List ℕ) (k j : ℕ) → list_any (is_at (nat_cmp j)) ks ≡ true → list_any (is_at (nat_cmp j)) (insert_key nat_cmp ks k) ≡ true
has_still [] k j h = cc
has_still (x ∷ xs) k j h = by_order (nat_cmp k x) (has_still xs k j)
  where
    by_order : (o : Ordering) → (list_any (is_at (nat_cmp j)) xs ≡ true → list_any (is_at (nat_cmp j)) (insert_key nat_cmp xs k) ≡ true)
        → list_any (is_at (nat_cmp j)) (match_ordering o (k ∷ x ∷ xs) (x ∷ xs) (x ∷ insert_key nat_cmp xs k)) ≡ true
    by_order Less more = or_right (is_at (nat_cmp j) k) _ h
    by_order Equal more = h
    by_order Greater more = or_more (is_at (nat_cmp j) x) _ _ more h

-- a set to which a block was added where it belongs there
abbrev added : Bool → List ℕ → ℕ → List ℕ
added belongs ks k = if belongs then insert_key nat_cmp ks k else ks

pub added_new : (belongs : Bool) (old new : BTreeSet ℕ) (k : ℕ) → new.keys ≡ added belongs old.keys k → belongs ≡ true → has new k ≡ true
added_new belongs old new k is e = ap (list_any (is_at (nat_cmp k))) (is ∙ ap (λ b. added b old.keys k) e) ∙ has_new old.keys k

pub added_still : (belongs : Bool) (old new : BTreeSet ℕ) (k j : ℕ) → new.keys ≡ added belongs old.keys k → has old j ≡ true → has new j ≡ true
added_still true old new k j is h = ap (list_any (is_at (nat_cmp j))) is ∙ has_still old.keys k j h
added_still false old new k j is h = ap (list_any (is_at (nat_cmp j))) is ∙ h

-- ---- what is known of the blocks of requests
pub knows_still : (old new : Touched) (kind k : ℕ) → KnowsMore old new → Knows old kind k → Knows new kind k
knows_still old new kind k more knows = record { read = λ e. more.read k (knows.read e); written = λ e. more.written k (knows.written e) }

pub knows_more : (old mid new : Touched) → KnowsMore old mid → KnowsMore mid new → KnowsMore old new
knows_more old mid new first last = record {
  read = λ k h. last.read k (first.read k h);
  written = λ k h. last.written k (first.written k h);
  count = omega (arith, first.count, last.count);
}

touched_still : (c : Numbers) (old new : Touched) (r : Request) → KnowsMore old new → HasTouched c old r → HasTouched c new r
touched_still c old new r more h k there = (knows_still old new r.kind k more (h k there).0, omega (arith, more.count, (h k there).1))

-- ---- what a request touches
nothing_below : (k : ℕ) → (nat_le 0 k && nat_lt k 0) ≡ true → ⊥
nothing_below k h = let l : k < 0 = ltb-true k 0 (and_parts (nat_le 0 k) (nat_lt k 0) h).1 in omega (arith, l)

pub touches_ranged : (c : Numbers) (r : Request) (k : ℕ) → touches c r k ≡ true → has_range r.kind ≡ true
touches_ranged c r k h = by_served (is_served c r) refl
  where
    by_served : (b : Bool) → is_served c r ≡ b → has_range r.kind ≡ true
    by_served true e = (served c r e).ranged
    by_served false e =
        absurd (nothing_below k (subst (λ (b : Bool). (nat_le (if b then r.offset / c.size else 0) k && nat_lt k (if b then div_ceil (r.offset + r.len) c.size else 0)) ≡ true) e h))

pub touches_from : (c : Numbers) (r : Request) (k : ℕ) → touches c r k ≡ true → first_of c r ≤ k
touches_from c r k h = leb-true (first_of c r) k (and_parts _ _ h).0

pub touches_to : (c : Numbers) (r : Request) (k : ℕ) → touches c r k ≡ true → k < end_of c r
touches_to c r k h = ltb-true k (end_of c r) (and_parts _ _ h).1

-- ---- a request that joins others
changing : (kind : ℕ) → (kind ≡ read_kind → ⊥) → has_range kind ≡ true → changes kind ≡ true
changing kind other ranged = subst (λ b. (b || changes kind) ≡ true) (ne_eqb kind read_kind other) ranged

by_kind : (t : Touched) (kind other k : ℕ) → has_range kind ≡ true → Knows t kind k → IsFree t other k → (kind ≡ read_kind) × (other ≡ read_kind)
by_kind t kind other k ranged knows free = elim (cases_eq kind read_kind) [
  | inr writes ↦ absurd (let e = knows.written (changing kind writes ranged) in let f = free.0 in cc)
  | inl is ↦ (
    is,
    elim free.1 [
      | inl same ↦ same
      | inr none ↦ absurd (let e = knows.read is in cc)
    ],
  )
]

pub separate : (c : Numbers) (t : Touched) (a b : List ℕ) → HasTouched c t (request_of a)
    → ((k : ℕ) → first_of c (request_of b) ≤ k → k < end_of c (request_of b) → HasRoom t (request_of b).kind k) → AreSeparate c a b
separate c t a b knows room k there too =
    let known = knows k there in
    elim (room k (touches_from c (request_of b) k too) (touches_to c (request_of b) k too)) [
      | inl none ↦ absurd (omega (arith, known.1, none))
      | inr free ↦ by_kind t (request_of a).kind (request_of b).kind k (touches_ranged c (request_of a) k there) known.0 free
    ]

-- the blocks of requests are known
abbrev pub AreKnown : Numbers → Touched → List (List ℕ) → Type 0
AreKnown c t requests = All (λ bytes. HasTouched c t (request_of bytes)) requests

pub known_more : (c : Numbers) (old new : Touched) (asked : List Asked) (next : Asked) → KnowsMore old new → AreKnown c old (requests_of asked)
    → HasTouched c new (request_of next.bytes.now) → AreKnown c new (requests_of (asked ++ next ∷ []))
known_more c old new asked next more before here =
    let P : List ℕ → Type 0 = λ bytes. HasTouched c new (request_of bytes) in
    let still : All P (requests_of asked) = λ k d high. touched_still c old new (request_of (get_or (requests_of asked) k d)) more (before k d high) in
    subst (All P) (sym (map-append bytes_of asked (next ∷ [])))
    (All-append P (requests_of asked) (next.bytes.now ∷ []) still (All-from_recursion P (next.bytes.now ∷ []) (here, tt)))

pub apart_more : (c : Numbers) (t : Touched) (asked : List Asked) (next : Asked) → AreKnown c t (requests_of asked) → AllPairs (AreSeparate c) (requests_of asked)
    → ((k : ℕ) → first_of c (request_of next.bytes.now) ≤ k → k < end_of c (request_of next.bytes.now) → HasRoom t (request_of next.bytes.now).kind k)
    → AllPairs (AreSeparate c) (requests_of (asked ++ next ∷ []))
apart_more c t asked next known before room =
    subst (AllPairs (AreSeparate c)) (sym (map-append bytes_of asked (next ∷ [])))
    (all_pairs_push (AreSeparate c) (requests_of asked) next.bytes.now before
    (λ k d high. separate c t (get_or (requests_of asked) k d) next.bytes.now (known k d high) room))
