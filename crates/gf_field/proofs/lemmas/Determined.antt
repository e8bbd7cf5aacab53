-- The values at m points determine the polynomial of m coefficients.
use Rattle.std.proofs.Common.{◌≡◌, ◌≢◌, ℕ, suc, ◌<◌, inl, inr, List, [], ◌∷◌, length, refl, sym, ap, ◌∙◌, arith}
use Rattle.std.specs.Int.Bits.{bit_xor, xor_assoc, xor_self, xor_zero_l, xor_zero_r}
use Rattle.std.proofs.lemmas.Nat.{xor_comm, xor_lt}
use Rattle.gf_field.specs.Field.{product}
use Rattle.gf_field.proofs.lemmas.Additive.{xor_middle, product-xor_left, product-xor_right}
use Rattle.gf_field.proofs.lemmas.FieldLaws.{product_comm, product_assoc, product-zero_right, product-lt, product-eq-zero}
use Rattle.gf_field.specs.Polynomials.{horner}

-- the premises by recursion
abbrev pub EachElement : List ℕ → Type 0
EachElement [] = Unit {0}
EachElement (x ∷ xs) = (x < 256) × EachElement xs

abbrev pub DiffersFrom : ℕ → List ℕ → Type 0
DiffersFrom r [] = Unit {0}
DiffersFrom r (x ∷ xs) = (x ≢ r) × DiffersFrom r xs

abbrev pub EachDistinct : List ℕ → Type 0
EachDistinct [] = Unit {0}
EachDistinct (x ∷ xs) = DiffersFrom x xs × EachDistinct xs

-- the two polynomials have the same values at these points
abbrev pub AgreeAt : List ℕ → List ℕ → List ℕ → Type 0
AgreeAt cs ds [] = Unit {0}
AgreeAt cs ds (x ∷ xs) = (horner cs x ≡ horner ds x) × AgreeAt cs ds xs

pub xor-lt : (a b : ℕ) → a < 256 → b < 256 → bit_xor a b < 256
xor-lt a b ha hb = xor_lt 8 a b ha hb

pub horner-lt : (cs : List ℕ) (x : ℕ) → EachElement cs → x < 256 → horner cs x < 256
horner-lt [] x h hx = omega arith
horner-lt (c ∷ cs) x h hx = xor-lt c (product x (horner cs x)) h.0 (product-lt x (horner cs x) hx (horner-lt cs x h.1 hx))

-- the quotient by x + r of the polynomial with any constant term and then these coefficients
quotient : ℕ → List ℕ → List ℕ
quotient r [] = []
quotient r (d ∷ ds) = horner (d ∷ ds) r ∷ quotient r ds

quotient_elements : (r : ℕ) (g : List ℕ) → r < 256 → EachElement g → EachElement (quotient r g)
unfolding quotient
quotient_elements r [] hr h = tt
quotient_elements r (d ∷ ds) hr h = (horner-lt (d ∷ ds) r h hr, quotient_elements r ds hr h.1)

length-quotient : (r : ℕ) (g : List ℕ) → length (quotient r g) ≡ length g
unfolding quotient
length-quotient r [] = refl
length-quotient r (d ∷ ds) = ap suc (length-quotient r ds)

-- a term that both sums have goes
cancel : (d a b : ℕ) → bit_xor (bit_xor d a) (bit_xor d b) ≡ bit_xor a b
cancel d a b = xor_middle d a d b ∙ ap (λ z. bit_xor z (bit_xor a b)) (xor_self d) ∙ xor_zero_l (bit_xor a b)

cancel_across : (a b c : ℕ) → bit_xor (bit_xor a b) (bit_xor c a) ≡ bit_xor c b
cancel_across a b c = ap (bit_xor (bit_xor a b)) (xor_comm c a) ∙ cancel a b c ∙ xor_comm b c

divides : (x r : ℕ) (g : List ℕ) → x < 256 → r < 256 → EachElement g
    → product (bit_xor x r) (horner (quotient r g) x) ≡ bit_xor (product x (horner g x)) (product r (horner g r))
unfolding quotient
divides x r [] hx hr h = product-zero_right (bit_xor x r) ∙ sym (ap (λ z. bit_xor z (product r 0)) (product-zero_right x) ∙ xor_zero_l (product r 0) ∙ product-zero_right r)
divides x r (d ∷ ds) hx hr h =
    let gx = horner (d ∷ ds) x in
    let gr = horner (d ∷ ds) r in
    let q = horner (quotient r ds) x in
    let s = bit_xor x r in
    let hs : s < 256 = xor-lt x r hx hr in
    let hq : q < 256 = horner-lt (quotient r ds) x (quotient_elements r ds hr h.1) hx in
    let rest : product s q ≡ bit_xor gx gr = divides x r ds hx hr h.1 ∙ sym (cancel d (product x (horner ds x)) (product r (horner ds r))) in
    let move : product s (product x q) ≡ product x (product s q) =
    sym (product_assoc s x q hs hx hq) ∙ ap (λ z. product z q) (product_comm s x hs hx) ∙ product_assoc x s q hx hs hq in
    let second : product s (product x q) ≡ bit_xor (product x gx) (product x gr) = move ∙ ap (product x) rest ∙ product-xor_right x gx gr in
    let first : product s gr ≡ bit_xor (product x gr) (product r gr) = product-xor_left x r gr in
    product-xor_right s gr (product x q)
    ∙ ap (λ z. bit_xor z (product s (product x q))) first
    ∙ ap (bit_xor (bit_xor (product x gr) (product r gr))) second
    ∙ cancel_across (product x gr) (product r gr) (product x gx)

pub xor-eq-zero : (a b : ℕ) → bit_xor a b ≡ 0 → a ≡ b
xor-eq-zero a b h = sym (xor_zero_r a) ∙ ap (bit_xor a) (sym h) ∙ sym (xor_assoc a a b) ∙ ap (λ z. bit_xor z b) (xor_self a) ∙ xor_zero_l b

abbrev AreZero : List ℕ → Type 0
AreZero [] = Unit {0}
AreZero (c ∷ cs) = (c ≡ 0) × AreZero cs

abbrev HasRoots : List ℕ → List ℕ → Type 0
HasRoots cs [] = Unit {0}
HasRoots cs (x ∷ xs) = (horner cs x ≡ 0) × HasRoots cs xs

horner-zero : (cs : List ℕ) (x : ℕ) → AreZero cs → horner cs x ≡ 0
horner-zero [] x h = refl
horner-zero (c ∷ cs) x h = ap (λ z. bit_xor z (product x (horner cs x))) h.0 ∙ xor_zero_l (product x (horner cs x)) ∙ ap (product x) (horner-zero cs x h.1) ∙ product-zero_right x

constant_zero : (c r : ℕ) (g : List ℕ) → AreZero g → horner (c ∷ g) r ≡ 0 → c ≡ 0
constant_zero c r g h root = sym (xor_zero_r c) ∙ ap (bit_xor c) (sym (ap (product r) (horner-zero g r h) ∙ product-zero_right r)) ∙ root

quotient_zero : (r : ℕ) (g : List ℕ) → AreZero (quotient r g) → AreZero g
unfolding quotient
quotient_zero r [] h = tt
quotient_zero r (d ∷ ds) h = let rest = quotient_zero r ds h.1 in (constant_zero d r ds rest h.0, rest)

roots_left : (c r : ℕ) (g xs : List ℕ) → c < 256 → r < 256 → EachElement g → EachElement xs → DiffersFrom r xs → horner (c ∷ g) r ≡ 0 → HasRoots (c ∷ g) xs → HasRoots (quotient r g) xs
roots_left c r g [] hc hr hg hxs apart root roots = tt
roots_left c r g (x ∷ xs) hc hr hg hxs apart root roots =
    let none : product (bit_xor x r) (horner (quotient r g) x) ≡ 0 =
    divides x r g hxs.0 hr hg ∙ sym (cancel c (product x (horner g x)) (product r (horner g r)))
    ∙ ap (λ z. bit_xor z (horner (c ∷ g) r)) roots.0 ∙ xor_zero_l (horner (c ∷ g) r) ∙ root in
    let hq = horner-lt (quotient r g) x (quotient_elements r g hr hg) hxs.0 in (
      elim (product-eq-zero (bit_xor x r) (horner (quotient r g) x) (xor-lt x r hxs.0 hr) hq none) [
        | inl same ↦ absurd (apart.0 (xor-eq-zero x r same))
        | inr is ↦ is
      ],
      roots_left c r g xs hc hr hg hxs.1 apart.1 root roots.1,
    )

pub zero_from_roots : (xs cs : List ℕ) → length cs ≡ length xs → EachElement cs → EachElement xs → EachDistinct xs → HasRoots cs xs → AreZero cs
zero_from_roots [] [] e hc hx d roots = tt
zero_from_roots [] (c ∷ cs) e hc hx d roots = absurd (omega arith)
zero_from_roots (x ∷ xs) [] e hc hx d roots = absurd (omega arith)
zero_from_roots (r ∷ xs) (c ∷ g) e hc hx d roots =
    let rest = quotient_zero r g (zero_from_roots xs (quotient r g) (length-quotient r g ∙ omega arith) (quotient_elements r g hx.0 hc.1) hx.1 d.1 (roots_left c r g xs hc.0 hx.0 hc.1 hx.1 d.0 roots.0 roots.1)) in
    (constant_zero c r g rest roots.0, rest)

pub added : List ℕ → List ℕ → List ℕ
added [] ds = []
added (c ∷ cs) [] = []
added (c ∷ cs) (d ∷ ds) = bit_xor c d ∷ added cs ds

pub horner-added : (cs ds : List ℕ) (x : ℕ) → length cs ≡ length ds → horner (added cs ds) x ≡ bit_xor (horner cs x) (horner ds x)
unfolding added
horner-added [] [] x e = refl
horner-added [] (d ∷ ds) x e = absurd (omega arith)
horner-added (c ∷ cs) [] x e = absurd (omega arith)
horner-added (c ∷ cs) (d ∷ ds) x e =
    ap (λ z. bit_xor (bit_xor c d) (product x z)) (horner-added cs ds x (omega arith))
    ∙ ap (bit_xor (bit_xor c d)) (product-xor_right x (horner cs x) (horner ds x))
    ∙ xor_middle c d (product x (horner cs x)) (product x (horner ds x))

pub added_elements : (cs ds : List ℕ) → EachElement cs → EachElement ds → EachElement (added cs ds)
unfolding added
added_elements [] ds h k = tt
added_elements (c ∷ cs) [] h k = tt
added_elements (c ∷ cs) (d ∷ ds) h k = (xor-lt c d h.0 k.0, added_elements cs ds h.1 k.1)

pub length-added : (cs ds : List ℕ) → length cs ≡ length ds → length (added cs ds) ≡ length cs
unfolding added
length-added [] ds e = refl
length-added (c ∷ cs) [] e = absurd (omega arith)
length-added (c ∷ cs) (d ∷ ds) e = ap suc (length-added cs ds (omega arith))

same_from_added : (cs ds : List ℕ) → length cs ≡ length ds → AreZero (added cs ds) → cs ≡ ds
unfolding added
same_from_added [] [] e h = refl
same_from_added [] (d ∷ ds) e h = absurd (omega arith)
same_from_added (c ∷ cs) [] e h = absurd (omega arith)
same_from_added (c ∷ cs) (d ∷ ds) e h = let head = xor-eq-zero c d h.0 in let tail = same_from_added cs ds (omega arith) h.1 in cc

roots_of_added : (cs ds xs : List ℕ) → length cs ≡ length ds → AgreeAt cs ds xs → HasRoots (added cs ds) xs
roots_of_added cs ds [] e h = tt
roots_of_added cs ds (x ∷ xs) e h = (horner-added cs ds x e ∙ ap (λ z. bit_xor z (horner ds x)) h.0 ∙ xor_self (horner ds x), roots_of_added cs ds xs e h.1)

pub coefficients_determined : (cs ds xs : List ℕ) → length cs ≡ length xs → length ds ≡ length xs → EachElement cs → EachElement ds → EachElement xs → EachDistinct xs → AgreeAt cs ds xs → cs ≡ ds
coefficients_determined cs ds xs e f hc hd hx d h =
    let same : length cs ≡ length ds = e ∙ sym f in
    same_from_added cs ds same (zero_from_roots xs (added cs ds) (length-added cs ds same ∙ e) (added_elements cs ds hc hd) hx d (roots_of_added cs ds xs same h))
