-- What disks of slots hold.
use Rattle.std.proofs.Common.{◌≡◌, ◌≢◌, ◌⊎◌, inl, inr, ℕ, zero, suc, ◌+◌, ◌*◌, ◌<◌, ◌≤◌, Bool, true, false, cond, eqb, ltb, List, [], ◌∷◌, ◌++◌, length, get_or, take, drop, refl, sym, ◌∙◌, ap, subst, arith, append_assoc, length-append, take-append-drop, length-take, length-drop}
use Rattle.std.specs.Prelude.{◌&&◌}
use Rattle.std.specs.List.{AllByRecursion}
use Rattle.std.proofs.lemmas.Bool.{cases_eq, cases_lt}
use Rattle.std.proofs.lemmas.Bool.Decides.{nat_tests}
use Rattle.std.proofs.lemmas.List.{append-nil, take_at, drop_at, drop_more}
use Rattle.slot_disk.specs.Bodies.{bodies_from, bodies, IsClosedAt}

-- open slots of these bodies
abbrev pub chain : List (List ℕ) → List ℕ
chain [] = []
chain (b ∷ bs) = 1 ∷ (b ++ chain bs)

-- each body has its length
abbrev pub AreLong : ℕ → List (List ℕ) → Type 0
AreLong w bs = AllByRecursion (λ (b : List ℕ). length b ≡ w) bs

skip_all : (w : ℕ) (xs ys : List ℕ) → bodies_from w (length xs) (xs ++ ys) ≡ bodies_from w 0 ys
skip_all w [] ys = refl
skip_all w (x ∷ xs) ys = skip_all w xs ys

is_open : (w gate : ℕ) (rest : List ℕ) → gate ≡ 1 → w < length rest → (eqb gate 1 && ltb w (length rest)) ≡ true
is_open w gate rest is long = grind (arith, nat_tests)

pub bodies_from_open : (w gate : ℕ) (rest : List ℕ) → gate ≡ 1 → w < length rest → bodies_from w 0 (gate ∷ rest) ≡ take w rest ∷ bodies_from w w rest
bodies_from_open w gate rest is long = ap (λ (t : Bool). cond t (take w rest ∷ bodies_from w w rest) []) (is_open w gate rest is long)

is_shut : (w gate : ℕ) (rest : List ℕ) → (gate ≢ 1) ⊎ (length rest ≤ w) → (eqb gate 1 && ltb w (length rest)) ≡ false
is_shut w gate rest (inl other) = grind (arith, nat_tests)
is_shut w gate rest (inr short) = grind (arith, nat_tests)

pub bodies_from_shut : (w gate : ℕ) (rest : List ℕ) → (gate ≢ 1) ⊎ (length rest ≤ w) → bodies_from w 0 (gate ∷ rest) ≡ []
bodies_from_shut w gate rest why = ap (λ (t : Bool). cond t (take w rest ∷ bodies_from w w rest) []) (is_shut w gate rest why)

-- one slot that is open, and what stands behind it
pub one_slot : (w : ℕ) (b rest : List ℕ) → length b ≡ w → 0 < length rest → bodies_from w 0 (1 ∷ (b ++ rest)) ≡ b ∷ bodies_from w 0 rest
one_slot w b rest long some =
    let fits : w < length (b ++ rest) = omega (arith, length-append b rest, long, some) in
    bodies_from_open w 1 (b ++ rest) refl fits
    ∙ ap (λ (l : List ℕ). l ∷ bodies_from w w (b ++ rest)) (take_at b rest w long)
    ∙ ap (λ (n : ℕ). b ∷ bodies_from w n (b ++ rest)) (sym long)
    ∙ ap (λ (l : List (List ℕ)). b ∷ l) (skip_all w b rest)

pub bodies_chain : (w : ℕ) (bs : List (List ℕ)) (rest : List ℕ) → AreLong w bs → 0 < length rest → bodies w (chain bs ++ rest) ≡ bs ++ bodies w rest
bodies_chain w [] rest long some = refl
bodies_chain w (b ∷ bs) rest long some =
    ap (λ (l : List ℕ). bodies_from w 0 (1 ∷ l)) (append_assoc b (chain bs) rest)
    ∙ one_slot w b (chain bs ++ rest) long.0 (omega (arith, length-append (chain bs) rest, some))
    ∙ ap (λ (l : List (List ℕ)). b ∷ l) (bodies_chain w bs rest long.1 some)

pub length-chain : (w : ℕ) (bs : List (List ℕ)) → AreLong w bs → length (chain bs) ≡ length bs * (w + 1)
length-chain w [] long = omega arith
length-chain w (b ∷ bs) long = omega (arith, length-append b (chain bs), length-chain w bs long.1, long.0, mul_suc (length bs) (w + 1))
  where
    mul_suc : (n m : ℕ) → suc n * m ≡ n * m + m
    mul_suc n m = omega arith

-- a closed gate ends the slots, whatever stands behind it
pub bodies_closed : (w : ℕ) (bs : List (List ℕ)) (gate : ℕ) (rest : List ℕ) → AreLong w bs → gate ≢ 1 → bodies w (chain bs ++ gate ∷ rest) ≡ bs
bodies_closed w bs gate rest long other =
    bodies_chain w bs (gate ∷ rest) long (omega arith) ∙ ap (λ (l : List (List ℕ)). bs ++ l) (bodies_from_shut w gate rest (inl other)) ∙ append-nil bs

-- bytes as open slots, and an end that has none
pub record Parts (w : ℕ) (bytes : List ℕ) : Type 0 where
  pub end : List ℕ
  pub split : bytes ≡ chain (bodies w bytes) ++ end
  pub long : AreLong w (bodies w bytes)
  pub nothing : bodies w end ≡ []
  pub behind : (bodies w bytes ≡ []) ⊎ (0 < length end)

shut_parts : (w gate : ℕ) (rest : List ℕ) → (gate ≢ 1) ⊎ (length rest ≤ w) → Parts w (gate ∷ rest)
shut_parts w gate rest why =
    let none = bodies_from_shut w gate rest why in
    record { end = gate ∷ rest; split = ap (λ (l : List (List ℕ)). chain l ++ (gate ∷ rest)) (sym none); long = subst (AreLong w) (sym none) tt; nothing = none; behind = inl none }

-- one slot that is open, as its body and what stands behind it
pub open_first : (w gate : ℕ) (rest : List ℕ) → gate ≡ 1 → w < length rest → bodies w (gate ∷ rest) ≡ take w rest ∷ bodies w (drop w rest)
open_first w gate rest one fits =
    let whole : length (take w rest) ≡ w = omega (arith, length-take w rest, fits) in
    let skipped : bodies_from w w rest ≡ bodies_from w 0 (drop w rest) =
    ap (λ (l : List ℕ). bodies_from w w l) (sym (take-append-drop w rest)) ∙ ap (λ (n : ℕ). bodies_from w n (take w rest ++ drop w rest)) (sym whole) ∙ skip_all w (take w rest) (drop w rest) in
    bodies_from_open w gate rest one fits ∙ ap (λ (l : List (List ℕ)). take w rest ∷ l) skipped

some_behind : (w : ℕ) (rest : List ℕ) (p : Parts w (drop w rest)) → w < length rest → 0 < length p.end
some_behind w rest p fits = elim p.behind [
  | inl none ↦ omega (arith, length-drop w rest, ap length (p.split ∙ ap (λ (l : List (List ℕ)). chain l ++ p.end) none))
  | inr more ↦ more
]

open_parts : (w gate : ℕ) (rest : List ℕ) → Parts w (drop w rest) → gate ≡ 1 → w < length rest → Parts w (gate ∷ rest)
open_parts w gate rest behind one fits =
    let whole : length (take w rest) ≡ w = omega (arith, length-take w rest, fits) in
    let joined = take-append-drop w rest in
    let found : bodies w (gate ∷ rest) ≡ take w rest ∷ bodies w (drop w rest) = open_first w gate rest one fits in
    let apart : gate ∷ rest ≡ chain (take w rest ∷ bodies w (drop w rest)) ++ behind.end =
    ap (λ (n : ℕ). n ∷ rest) one ∙ ap (λ (l : List ℕ). 1 ∷ l) (sym joined) ∙ ap (λ (l : List ℕ). 1 ∷ (take w rest ++ l)) behind.split
    ∙ ap (λ (l : List ℕ). 1 ∷ l) (sym (append_assoc (take w rest) (chain (bodies w (drop w rest))) behind.end)) in
    record {
      end = behind.end;
      split = apart ∙ ap (λ (l : List (List ℕ)). chain l ++ behind.end) (sym found);
      long = subst (AreLong w) (sym found) (whole, behind.long);
      nothing = behind.nothing;
      behind = inr (some_behind w rest behind fits);
    }

-- by recursion on a bound of the length
parts_within : (w most : ℕ) (bytes : List ℕ) → length bytes ≤ most → Parts w bytes
parts_within w zero [] le = record { end = []; split = refl; long = tt; nothing = refl; behind = inl refl }
parts_within w zero (gate ∷ rest) le = absurd (omega arith)
parts_within w (suc most) [] le = record { end = []; split = refl; long = tt; nothing = refl; behind = inl refl }
parts_within w (suc most) (gate ∷ rest) le = elim (cases_eq gate 1) [
  | inl one ↦ elim (cases_lt w (length rest)) [
    | inl fits ↦ open_parts w gate rest (parts_within w most (drop w rest) (omega (arith, length-drop w rest, le))) one fits
    | inr short ↦ shut_parts w gate rest (inr short)
  ]
  | inr other ↦ shut_parts w gate rest (inl other)
]

pub parts_of_bytes : (w : ℕ) (bytes : List ℕ) → Parts w bytes
parts_of_bytes w bytes = parts_within w (length bytes) bytes (omega arith)

-- bytes with a closed gate behind their slots, as slots, the gate, and the rest
pub record ClosedParts (w : ℕ) (bytes : List ℕ) (count : ℕ) : Type 0 where
  pub gate : ℕ
  pub rest : List ℕ
  pub split : bytes ≡ chain (bodies w bytes) ++ gate ∷ rest
  pub long : AreLong w (bodies w bytes)
  pub other : gate ≢ 1
  pub size : length (chain (bodies w bytes)) ≡ count * (w + 1)

pub closed_parts : (w : ℕ) (bytes : List ℕ) (count : ℕ) → IsClosedAt w bytes count → ClosedParts w bytes count
closed_parts w bytes count is =
    let p = parts_of_bytes w bytes in
    let size : length (chain (bodies w bytes)) ≡ count * (w + 1) = length-chain w (bodies w bytes) p.long ∙ ap (λ (n : ℕ). n * (w + 1)) (sym is.counted) in
    let front : drop (count * (w + 1)) bytes ≡ p.end = ap (drop (count * (w + 1))) p.split ∙ drop_at (chain (bodies w bytes)) p.end (count * (w + 1)) size in
    record {
      gate = get_or bytes (count * (w + 1)) 0;
      rest = drop (count * (w + 1) + 1) bytes;
      split = p.split ∙ ap (λ (l : List ℕ). chain (bodies w bytes) ++ l) (sym front ∙ drop_more bytes (count * (w + 1)) 0 is.there);
      long = p.long;
      other = is.closed;
      size = size;
    }
