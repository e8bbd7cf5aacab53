-- What the fields of an entry line spell.
use Rattle.std.proofs.Common.{◌≡◌, ◌⊎◌, ℕ, ◌<◌, ◌≤◌, ◌^◌, Bool, true, false, List, [], ◌∷◌, ◌++◌, Option, Some, None, refl, sym, ap, subst, ◌∙◌, arith, lit≤, lit<, append_assoc, inl, inr}
use Rattle.std.specs.Prelude.{codes, decimal, option_map, if◌then◌else◌}
use Rattle.std.specs.Str.{bytes_eq}
use Rattle.std.specs.List.{join_with_byte}
use Rattle.std.proofs.lemmas.Slice.Eq.{bytes_eq-Decides}
use Rattle.std.proofs.lemmas.List.Splits.{join_with_byte-slice_split}
use Rattle.text_lines.specs.Lines.{parts_at, Lacks}
use Rattle.text_lines.specs.Fields.{number_of}
use Rattle.text_lines.proofs.lemmas.Numbers.{number_of-some}
use Rattle.text_lines.proofs.lemmas.Joined.{only_part, Lacks-decimal}
use Rattle.history_making.specs.declared.entry.Kind.{Kind}
use Rattle.history_making.specs.declared.entry.Kind.TheVariants.{Read, Write, Foreign}
use Rattle.history_book.specs.declared.numbers.StampNumbers.{StampNumbers}
use Rattle.history_book.specs.declared.numbers.Numbers.{Numbers}
use Rattle.history_book.specs.Reports.{kind_word, place_text}
use Rattle.history_book.specs.ReportTexts.{◌>>=◌, kind_told, stamp_of_parts, stamp_told, some_place, no_place, start_told, end_told, numbers_told, IsPlace, IsPlaceOrNone, HasPlaces}

-- ---- steps that may fail

-- both steps gave something
pub some_then : {A B : Type 0} (o : Option A) (f : A → Option B) (b : B) → (o >>= f) ≡ Some b → (a : A) × (o ≡ Some a) × (f a ≡ Some b)
some_then None f b h = absurd cc
some_then (Some a) f b h = (a, refl, h)

-- ---- stamps

pub stamp_parts : (field : List ℕ) (ps : List (List ℕ)) → parts_at 46 field ≡ ps → stamp_told field ≡ stamp_of_parts ps
unfolding stamp_told
stamp_parts field ps h = ap stamp_of_parts h

one_stamp_part : (x : List ℕ) → stamp_of_parts (x ∷ []) ≡ None
one_stamp_part x = refl

pub no_dot : (field : List ℕ) → parts_at 46 field ≡ field ∷ [] → stamp_told field ≡ None
no_dot field h = stamp_parts field (field ∷ []) h

pub one_dot : (field t rest : List ℕ) → parts_at 46 field ≡ t ∷ parts_at 46 rest → parts_at 46 rest ≡ rest ∷ [] → stamp_told field ≡ None
one_dot field t rest h k = stamp_parts field (t ∷ rest ∷ []) (h ∙ ap (λ (ps : List (List ℕ)). t ∷ ps) k)

two_dots : (field t rest c k : List ℕ) → parts_at 46 field ≡ t ∷ parts_at 46 rest → parts_at 46 rest ≡ c ∷ parts_at 46 k → stamp_told field ≡ stamp_of_parts (t ∷ c ∷ parts_at 46 k)
two_dots field t rest c k h g = stamp_parts field (t ∷ c ∷ parts_at 46 k) (h ∙ ap (λ (ps : List (List ℕ)). t ∷ ps) g)

time_missing : (t c : List ℕ) (ps : List (List ℕ)) → number_of (2 ^ 64) t ≡ None → stamp_of_parts (t ∷ c ∷ ps) ≡ None
time_missing t c [] h = refl
time_missing t c (k ∷ []) h = rw h refl
time_missing t c (k ∷ l ∷ ps) h = refl

writer_missing : (t c : List ℕ) (time : ℕ) (ps : List (List ℕ)) → number_of (2 ^ 64) t ≡ Some time → number_of (2 ^ 32) c ≡ None → stamp_of_parts (t ∷ c ∷ ps) ≡ None
writer_missing t c time [] h g = refl
writer_missing t c time (k ∷ []) h g = rw (h, g) refl
writer_missing t c time (k ∷ l ∷ ps) h g = refl

one_part_is : (x p : List ℕ) → parts_at 46 x ≡ p ∷ [] → p ≡ x
one_part_is x p h = sym (ap (join_with_byte 46) h) ∙ join_with_byte-slice_split 46 x

mark_missing : (t c x : List ℕ) (time writer : ℕ) (ps : List (List ℕ)) → parts_at 46 x ≡ ps → number_of (2 ^ 64) t ≡ Some time → number_of (2 ^ 32) c ≡ Some writer → number_of (2 ^ 32) x ≡ None → stamp_of_parts (t ∷ c ∷ ps) ≡ None
mark_missing t c x time writer [] e h g m = refl
mark_missing t c x time writer (k ∷ []) e h g m = let none : number_of (2 ^ 32) k ≡ None = ap (number_of (2 ^ 32)) (one_part_is x k e) ∙ m in rw (h, g, none) refl
mark_missing t c x time writer (k ∷ l ∷ ps) e h g m = refl

-- a number stands alone between dots
alone : (x : List ℕ) (limit n : ℕ) → limit ≤ 2 ^ 64 → number_of limit x ≡ Some n → parts_at 46 x ≡ x ∷ []
alone x limit n small h =
    let s = number_of-some limit x n h in
    let lt : n < 2 ^ 64 = let a = s.1 in omega arith in
    only_part 46 x (subst (Lacks 46) (sym s.0) (Lacks-decimal 46 n (lit< tt) lt))

pub no_time : (field t rest c k : List ℕ) → parts_at 46 field ≡ t ∷ parts_at 46 rest → parts_at 46 rest ≡ c ∷ parts_at 46 k → number_of (2 ^ 64) t ≡ None → stamp_told field ≡ None
no_time field t rest c k h g n = two_dots field t rest c k h g ∙ time_missing t c (parts_at 46 k) n

pub no_writer : (field t rest c k : List ℕ) (time : ℕ) → parts_at 46 field ≡ t ∷ parts_at 46 rest → parts_at 46 rest ≡ c ∷ parts_at 46 k → number_of (2 ^ 64) t ≡ Some time → number_of (2 ^ 32) c ≡ None → stamp_told field ≡ None
no_writer field t rest c k time h g a n = two_dots field t rest c k h g ∙ writer_missing t c time (parts_at 46 k) a n

pub no_mark : (field t rest c k : List ℕ) (time writer : ℕ) → parts_at 46 field ≡ t ∷ parts_at 46 rest → parts_at 46 rest ≡ c ∷ parts_at 46 k → number_of (2 ^ 64) t ≡ Some time → number_of (2 ^ 32) c ≡ Some writer → number_of (2 ^ 32) k ≡ None → stamp_told field ≡ None
no_mark field t rest c k time writer h g a b n = two_dots field t rest c k h g ∙ mark_missing t c k time writer (parts_at 46 k) refl a b n

pub a_stamp : (field t rest c k : List ℕ) (time writer mark : ℕ) → parts_at 46 field ≡ t ∷ parts_at 46 rest → parts_at 46 rest ≡ c ∷ parts_at 46 k → number_of (2 ^ 64) t ≡ Some time → number_of (2 ^ 32) c ≡ Some writer → number_of (2 ^ 32) k ≡ Some mark
    → stamp_told field ≡ Some (record { time = time; writer = writer; mark = mark })
a_stamp field t rest c k time writer mark h g a b n =
    two_dots field t rest c k h g ∙ ap (λ (ps : List (List ℕ)). stamp_of_parts (t ∷ c ∷ ps)) (alone k (2 ^ 32) mark (lit≤ tt) n) ∙ rw (a, b, n) refl

-- ---- entries

kind_if : (b c d : Bool) (kind : Kind) → (if b then Some Read else (if c then Some Write else (if d then Some Foreign else None))) ≡ Some kind
    → ((b ≡ true) × (kind ≡ Read)) ⊎ ((c ≡ true) × (kind ≡ Write)) ⊎ ((d ≡ true) × (kind ≡ Foreign))
kind_if true c d kind h = inl (refl, cc)
kind_if false true d kind h = inr (inl (refl, cc))
kind_if false false true kind h = inr (inr (refl, cc))
kind_if false false false kind h = absurd cc

-- a kind is told by its word alone
pub kind_spelled : (word : List ℕ) (kind : Kind) → kind_told word ≡ Some kind → kind_word kind ≡ word
kind_spelled word kind h =
    elim (kind_if (bytes_eq word (codes "read")) (bytes_eq word (codes "write")) (bytes_eq word (codes "foreign")) kind h) [
      | inl r ↦ ap kind_word r.1 ∙ sym ((bytes_eq-Decides word (codes "read")).0 r.0)
      | inr more ↦ elim more [
        | inl w ↦ ap kind_word w.1 ∙ sym ((bytes_eq-Decides word (codes "write")).0 w.0)
        | inr f ↦ ap kind_word f.1 ∙ sym ((bytes_eq-Decides word (codes "foreign")).0 f.0)
      ]
    ]

pub kind_back : (kind : Kind) → kind_told (kind_word kind) ≡ Some kind
kind_back Read = refl
kind_back Write = refl
kind_back Foreign = refl

some_map : {A B : Type 0} (o : Option A) (f : A → B) (b : B) → option_map f o ≡ Some b → (a : A) × (o ≡ Some a) × (f a ≡ b)
some_map None f b h = absurd cc
some_map (Some a) f b h = (a, refl, cc)

-- a place is spelled so, and fits
record PlaceSpelled (field : List ℕ) (place : Option ℕ) : Type 0 where
  pub text : place_text place ≡ field
  pub fits : IsPlaceOrNone place

place_spelled : (field : List ℕ) (place : Option ℕ) → some_place field ≡ Some place → PlaceSpelled field place × IsPlace place
place_spelled field place h =
    let m = some_map (number_of (2 ^ 64) field) Some place h in
    let s = number_of-some (2 ^ 64) field m.0 m.1 in
    let P : Option ℕ → Type 0 = λ p. PlaceSpelled field p × IsPlace p in
    subst P m.2 (record { text = sym s.0; fits = s.1 }, s.1)

if_none : (b : Bool) (place : Option ℕ) (other : Option (Option ℕ)) → (if b then Some None else other) ≡ Some place → ((b ≡ true) × (place ≡ None)) ⊎ (other ≡ Some place)
if_none true place other h = let same : None ≡ place = cc in inl (refl, sym same)
if_none false place other h = inr h

no_place_spelled : (field : List ℕ) (place : Option ℕ) → no_place field ≡ Some place → PlaceSpelled field place × (place ≡ None)
no_place_spelled field place h =
    elim (if_none (bytes_eq field (codes "-")) place None h) [
      | inl n ↦
          let is = (bytes_eq-Decides field (codes "-")).0 n.0 in
          let P : Option ℕ → Type 0 = λ p. PlaceSpelled field p in
          (subst P (sym n.1) (record { text = sym is; fits = tt }), n.1)
      | inr e ↦ absurd cc
    ]

places_spelled : (kind : Kind) (st e : List ℕ) (start end : Option ℕ) → start_told kind st ≡ Some start → end_told kind e ≡ Some end → PlaceSpelled st start × PlaceSpelled e end × HasPlaces kind start end
places_spelled Read st e start end h g = let a = place_spelled st start h in let b = place_spelled e end g in (a.0, b.0, (a.1, b.1))
places_spelled Write st e start end h g =
    let a = place_spelled st start h in
    elim (if_none (bytes_eq e (codes "-")) end (some_place e) g) [
      | inl n ↦
          let is = (bytes_eq-Decides e (codes "-")).0 n.0 in
          let P : Option ℕ → Type 0 = λ p. PlaceSpelled st start × PlaceSpelled e p × (IsPlace start × IsPlaceOrNone p) in
          subst P (sym n.1) (a.0, record { text = sym is; fits = tt }, (a.1, tt))
      | inr p ↦ let b = place_spelled e end p in (a.0, b.0, (a.1, b.0.fits))
    ]
places_spelled Foreign st e start end h g = let a = no_place_spelled st start h in let b = no_place_spelled e end g in (a.0, b.0, (a.1, b.1))

-- three parts with a dot between two
abbrev pub dotted : StampNumbers → List ℕ
dotted n = decimal n.time ++ codes "." ++ decimal n.writer ++ codes "." ++ decimal n.mark

pub record StampSpelled (field : List ℕ) (n : StampNumbers) : Type 0 where
  pub text : dotted n ≡ field
  pub time : n.time < 2 ^ 64
  pub writer : n.writer < 2 ^ 32
  pub mark : n.mark < 2 ^ 32

pub dots : (a b c : List ℕ) → ((a ++ codes ".") ++ b) ++ codes "." ++ c ≡ a ++ 46 ∷ (b ++ 46 ∷ c)
dots a b c = simp append_assoc

parts_spelled : (ps : List (List ℕ)) (n : StampNumbers) → stamp_of_parts ps ≡ Some n → StampSpelled (join_with_byte 46 ps) n
parts_spelled (t ∷ c ∷ k ∷ []) n h =
    let a = some_then (number_of (2 ^ 64) t) _ n h in
    let b = some_then (number_of (2 ^ 32) c) _ n a.2 in
    let m = some_then (number_of (2 ^ 32) k) _ n b.2 in
    let same : record { time = a.0; writer = b.0; mark = m.0 } ≡ n = (let e : Some (record { time = a.0; writer = b.0; mark = m.0 }) ≡ Some n = m.2 in cc) in
    let ta = number_of-some (2 ^ 64) t a.0 a.1 in
    let tb = number_of-some (2 ^ 32) c b.0 b.1 in
    let tm = number_of-some (2 ^ 32) k m.0 m.1 in
    subst (λ (x : StampNumbers). StampSpelled (t ++ 46 ∷ (c ++ 46 ∷ k)) x) same (record {
      text = dots (decimal a.0) (decimal b.0) (decimal m.0) ∙ rw (sym ta.0, sym tb.0, sym tm.0) refl;
      time = ta.1;
      writer = tb.1;
      mark = tm.1;
    })
parts_spelled [] n h = absurd cc
parts_spelled (t ∷ []) n h = absurd cc
parts_spelled (t ∷ c ∷ []) n h = absurd cc
parts_spelled (t ∷ c ∷ k ∷ l ∷ ps) n h = absurd cc

stamp_spelled : (field : List ℕ) (n : StampNumbers) → stamp_told field ≡ Some n → StampSpelled field n
unfolding stamp_told
stamp_spelled field n h = subst (λ (x : List ℕ). StampSpelled x n) (join_with_byte-slice_split 46 field) (parts_spelled (parts_at 46 field) n h)

-- the numbers of an entry line are spelled so, and fit
pub record NumbersSpelled (kind : Kind) (b s c st e : List ℕ) (n : Numbers) : Type 0 where
  pub block : decimal n.block ≡ b
  pub block_fits : n.block < 2 ^ 32
  pub stamp : StampSpelled s n.stamp
  pub client : decimal n.client ≡ c
  pub client_fits : n.client < 2 ^ 32
  pub start : place_text n.start ≡ st
  pub end : place_text n.end ≡ e
  pub places : HasPlaces kind n.start n.end

pub numbers_spelled : (kind : Kind) (b s c st e : List ℕ) (n : Numbers) → numbers_told kind b s c st e ≡ Some n → NumbersSpelled kind b s c st e n
unfolding numbers_told
numbers_spelled kind b s c st e n h =
    let block = some_then (number_of (2 ^ 32) b) _ n h in
    let stamp = some_then (stamp_told s) _ n block.2 in
    let client = some_then (number_of (2 ^ 32) c) _ n stamp.2 in
    let start = some_then (start_told kind st) _ n client.2 in
    let end = some_then (end_told kind e) _ n start.2 in
    let made : Numbers = record { block = block.0; stamp = stamp.0; client = client.0; start = start.0; end = end.0 } in
    let same : made ≡ n = (let q : Some made ≡ Some n = end.2 in cc) in
    let tb = number_of-some (2 ^ 32) b block.0 block.1 in
    let tc = number_of-some (2 ^ 32) c client.0 client.1 in
    let places = places_spelled kind st e start.0 end.0 start.1 end.1 in
    subst (λ (x : Numbers). NumbersSpelled kind b s c st e x) same (record {
      block = sym tb.0;
      block_fits = tb.1;
      stamp = stamp_spelled s stamp.0 stamp.1;
      client = sym tc.0;
      client_fits = tc.1;
      start = places.0.text;
      end = places.1.text;
      places = places.2;
    })
