-- The greatest stamp that reads of a block gave, when a record is added or changed.
use Rattle.std.proofs.Common.{◌≡◌, ℕ, zero, suc, Bool, true, false, cond, eqb, List, [], ◌∷◌, ◌++◌, map, Option, refl, sym, ◌∙◌, ap}
use Rattle.std.specs.Prelude.{slice_get, slice_set}
use Rattle.std.specs.Option.{option_map}
use Rattle.std.specs.declared.option.Option.TheVariants.{None, Some}
use Rattle.std.proofs.lemmas.List.{map-append, map-set}
use Rattle.std.proofs.lemmas.Option.{slice_get-map}
use Rattle.stamp_order.specs.declared.Stamp.{Stamp}
use Rattle.stamp_order.specs.Stamps.{up_to, ◌≼◌}
use Rattle.protocol.specs.World.{Record, given_of, greater_stamp, greatest_given, stamp_given}
use Rattle.run_words.specs.declared.record.Record.{Record as Told}
use Rattle.protocol.specs.Seen.{record_of}
use Rattle.protocol.proofs.lemmas.Order.{≼-refl, ≼-trans, ≼-antisym, not_up_to}

-- ---- the greater of two stamps

-- the greater of two
abbrev top : Stamp → Stamp → Stamp
top x y = cond (up_to x y) y x

record IsTop (x y m : Stamp) : Type 0 where
  left : x ≼ m
  right : y ≼ m
  least : (z : Stamp) → x ≼ z → y ≼ z → m ≼ z

is_top : (x y : Stamp) → IsTop x y (top x y)
is_top x y = at (up_to x y) refl
  where
    at : (b : Bool) → up_to x y ≡ b → IsTop x y (cond b y x)
    at true e = record { left = e; right = ≼-refl y; least = λ z h k. k }
    at false e = record { left = ≼-refl x; right = not_up_to x y e; least = λ z h k. h }

top-swap : (x y z : Stamp) → top x (top y z) ≡ top y (top x z)
top-swap x y z = ≼-antisym _ _ (below x y z) (below y x z)
  where
    below : (x y z : Stamp) → top x (top y z) ≼ top y (top x z)
    below x y z =
        let a = is_top x z in
        let b = is_top y (top x z) in
        (is_top x (top y z)).least _ (≼-trans _ _ _ a.left b.right) ((is_top y z).least _ b.left (≼-trans _ _ _ a.right b.right))

-- of two options
none_right : (a : Option Stamp) → greater_stamp a None ≡ a
none_right None = refl
none_right (Some x) = refl

some_both : (x y : Stamp) → greater_stamp (Some x) (Some y) ≡ Some (top x y)
some_both x y = at (up_to x y)
  where
    at : (b : Bool) → cond b (Some y) (Some x) ≡ Some (cond b y x)
    at true = refl
    at false = refl

top-both : (x y : Stamp) → top x y ≡ top y x
top-both x y = ≼-antisym _ _ (below x y) (below y x)
  where
    below : (x y : Stamp) → top x y ≼ top y x
    below x y = let a = is_top y x in (is_top x y).least _ a.right a.left

greater-swap : (a b c : Option Stamp) → greater_stamp a (greater_stamp b c) ≡ greater_stamp b (greater_stamp a c)
greater-swap None b c = refl
greater-swap (Some x) None c = refl
greater-swap (Some x) (Some y) None = some_both x y ∙ ap Some (top-both x y) ∙ sym (some_both y x)
greater-swap (Some x) (Some y) (Some z) =
    ap (greater_stamp (Some x)) (some_both y z)
    ∙ some_both x (top y z)
    ∙ ap Some (top-swap x y z)
    ∙ sym (some_both y (top x z))
    ∙ ap (greater_stamp (Some y)) (sym (some_both x z))

-- ---- records

-- an operation that hasn't ended gave nothing
pub given_none : (block : ℕ) (r : Record) → stamp_given r.outcome ≡ None → given_of block r ≡ None
given_none block r e = at (eqb r.block block)
  where
    at : (b : Bool) → cond b (stamp_given r.outcome) None ≡ None
    at true = e
    at false = refl

pub given_elsewhere : (block : ℕ) (r : Record) → eqb r.block block ≡ false → given_of block r ≡ None
given_elsewhere block r e = rw e refl

pub given_here : (block : ℕ) (r : Record) → eqb r.block block ≡ true → given_of block r ≡ stamp_given r.outcome
given_here block r e = rw e refl

-- one more that gave nothing
pub greatest-push : (block : ℕ) (rs : List Record) (r : Record) → given_of block r ≡ None → greatest_given block (rs ++ r ∷ []) ≡ greatest_given block rs
greatest-push block [] r e = rw e refl
greatest-push block (x ∷ xs) r e = ap (greater_stamp (given_of block x)) (greatest-push block xs r e)

-- one that gave nothing is another one
pub greatest-set : (block : ℕ) (rs : List Record) (i : ℕ) (old new : Record) → slice_get rs i ≡ Some old → given_of block old ≡ None → greatest_given block (slice_set rs i new) ≡ greater_stamp (given_of block new) (greatest_given block rs)
greatest-set block [] i old new e none = absurd (cc)
greatest-set block (x ∷ xs) zero old new e none =
    let same : x ≡ old = cc in
    ap (λ (o : Option Stamp). greater_stamp (given_of block new) (greater_stamp o (greatest_given block xs))) (sym (ap (given_of block) same ∙ none))
greatest-set block (x ∷ xs) (suc i) old new e none =
    ap (greater_stamp (given_of block x)) (greatest-set block xs i old new e none) ∙ greater-swap (given_of block x) (given_of block new) (greatest_given block xs)

-- ---- records as they are told

pub greatest-more : (block : ℕ) (rs : List Told) (r : Told) → stamp_given r.outcome ≡ None → greatest_given block (map record_of (rs ++ r ∷ [])) ≡ greatest_given block (map record_of rs)
greatest-more block rs r none = ap (greatest_given block) (map-append record_of rs (r ∷ [])) ∙ greatest-push block (map record_of rs) (record_of r) (given_none block (record_of r) none)

pub greatest-told : (block i : ℕ) (rs : List Told) (r new : Told) → slice_get rs i ≡ Some r → stamp_given r.outcome ≡ None
    → greatest_given block (map record_of (slice_set rs i new)) ≡ greater_stamp (given_of block (record_of new)) (greatest_given block (map record_of rs))
greatest-told block i rs r new e none =
    ap (greatest_given block) (map-set record_of rs i new)
    ∙ greatest-set block (map record_of rs) i (record_of r) (record_of new) (slice_get-map record_of rs i ∙ ap (option_map record_of) e) (given_none block (record_of r) none)
