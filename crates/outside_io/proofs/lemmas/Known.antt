-- Known bytes that are taken piece by piece, and faults that are counted.
use Rattle.std.proofs.Common.{◌≡◌, ℕ, ◌+◌, ◌≤◌, inl, inr, List, [], ◌++◌, refl, sym, ◌∙◌, ap, arith, append_assoc, take, drop, take-append-drop, take-add, length, ◌-◌}
use Rattle.std.proofs.lemmas.List.{drop-drop, length-drop, length-take}
use Rattle.std.specs.Prelude.{Option, None, Some}
use Rattle.std.specs.Io.KnownBytes.{Consumes}
use Rattle.outside_io.specs.Written.{Adds, TakesPrefix}
use Rattle.std.proofs.Math.Seq.{take-length}
use Rattle.outside_io.specs.Causes.{Rose}
use Rattle.outside_io.specs.Given.{GaveAtMost}
use Rattle.std.proofs.Common.{Bool, true, false, cond, leb, length-append, take_all}
use Rattle.std.proofs.lemmas.Bool.{leb-true}
use Rattle.std.specs.Prelude.{◌&&◌}

pub Consumes-none : (known : Option (List ℕ)) → Consumes known known []
Consumes-none None = tt
Consumes-none (Some xs) = refl

pub Consumes-then : (a b c : Option (List ℕ)) (xs ys : List ℕ) → Consumes a b xs → Consumes b c ys → Consumes a c (xs ++ ys)
Consumes-then None b c xs ys h k = tt
Consumes-then (Some l) None c xs ys h k = absurd h
Consumes-then (Some l) (Some m) None xs ys h k = absurd k
Consumes-then (Some l) (Some m) (Some n) xs ys h k = h ∙ ap (λ z. xs ++ z) k ∙ sym (append_assoc xs ys n)

-- a count that rose later rose
pub Rose-earlier : (last : Option ℕ) (a b c : ℕ) → a ≤ b → Rose last b c → Rose last a c
Rose-earlier last a b c h (inl more) = inl (omega arith)
Rose-earlier last a b c h (inr stands) = inr stands

-- the bytes from a place on, in two parts
pub taken_then_left : (at n : ℕ) (bs : List ℕ) → drop at bs ≡ take n (drop at bs) ++ drop (at + n) bs
taken_then_left at n bs = sym (take-append-drop n (drop at bs)) ∙ ap (λ r. take n (drop at bs) ++ r) (drop-drop n at bs)

-- bytes that a piece more follows
pub adds_more : (a b c : Option (List ℕ)) (text : List ℕ) (at k : ℕ) → Adds a b (take at text) → Adds b c (take k (take (length text - at) (drop at text))) → Adds a c (take (at + k) text)
adds_more a b None text at k h j = tt
adds_more a None (Some n) text at k h j = absurd j
adds_more None (Some m) (Some n) text at k h j = absurd h
adds_more (Some l) (Some m) (Some n) text at k h j =
    let all : take (length text - at) (drop at text) ≡ drop at text = ap (λ i. take i (drop at text)) (sym (length-drop at text)) ∙ take-length (drop at text) in
    j ∙ ap (λ z. z ++ take k (take (length text - at) (drop at text))) h
    ∙ append_assoc l (take at text) (take k (take (length text - at) (drop at text)))
    ∙ ap (λ z. l ++ (take at text ++ take k z)) all
    ∙ ap (λ z. l ++ z) (sym (take-add at k text))

pub adds_prefix : (a b c : Option (List ℕ)) (text : List ℕ) (at : ℕ) → Adds a b (take at text) → c ≡ b → TakesPrefix a c text
adds_prefix a b c text at h e = (take at text, drop at text, sym (take-append-drop at text), rw e h)

pub place_within_text : (text : List ℕ) (at k : ℕ) → k ≤ length (take (length text - at) (drop at text)) → at ≤ length text → at + k ≤ length text
place_within_text text at k h in_range = omega (arith, h, length-take (length text - at) (drop at text), length-drop at text)

-- a room that kept a piece whole took it
pub adds_told : (before now fits : Bool) (kept later piece : List ℕ) (room : ℕ) → now ≡ (before && fits) → fits ≡ leb (length piece) room → later ≡ kept ++ take room piece → Adds (cond before (Some kept) None) (cond now (Some later) None) (take (length piece) piece)
adds_told before false fits kept later piece room is small e = tt
adds_told false true fits kept later piece room is small e = absurd cc
adds_told true true false kept later piece room is small e = absurd cc
adds_told true true true kept later piece room is small e =
    let le : length piece ≤ room = leb-true (length piece) room (sym small) in
    rw (take-length piece) (e ∙ ap (λ z. kept ++ z) (take_all room piece le))

-- what was consumed grows by a piece that no memory was found for
pub gave_more : (a b c : Option (List ℕ)) (xs ys : List ℕ) (most : ℕ) → Consumes a b xs → Consumes b c ys → length xs + length ys ≤ most → GaveAtMost most a c
gave_more a b c xs ys most h k small = (xs ++ ys, Consumes-then a b c xs ys h k, omega (arith, length-append xs ys))
