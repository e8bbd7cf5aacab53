-- Each kind of step keeps the rule.
use Rattle.std.proofs.Common.{◌≡◌, ℕ, zero, suc, ◌+◌, ◌*◌, ◌%◌, ◌^◌, ◌<◌, ◌≤◌, inl, inr, List, [], ◌∷◌, ◌++◌, length, set, get_or, refl, sym, ap, subst, ◌∙◌, arith, length-append}
use Rattle.std.proofs.Math.Nat.{mod-eq_of_lt}
use Rattle.std.proofs.lemmas.Bool.Decides.{nat_tests}
use Rattle.std.specs.Prelude.{slice_index, sum_by, All, nat_lt, nat_eq, if◌then◌else◌}
use Rattle.std.proofs.lemmas.List.Sums.{sum_by-set, sum_by-append, sum_by-cons, sum_by_push, sum_by-le}
use Rattle.std.proofs.lemmas.List.Elements.{All-append, All-cons, All-head, All-nil, All-tail}
use mathlib.Core.Option.{none, some, some-injective, some-ne-none}
use lib.ListN.{get_elem?}
use Rattle.atomic_table.proofs.Lists.{at_set, at_snoc, set_again}
use Rattle.atomic_table.specs.Table.{step, stepped, Act, keeps, Allows, Splits, Joins, Valid, carried_after, opening}
use Rattle.event_clock.specs.declared.rule.Share.{Share}
use Rattle.event_clock.specs.declared.rule.View.{View}
use Rattle.event_clock.specs.Views.{times, times_drawn, drawn_count, times_numbered, once_below, Fits, IsKept, Keeps, unused_shares, first_view, first_share, other_shares, with_shares, note_of, joined, spent, only, with_drawn, HasAll, KnowsAll, Draws, Looks}

-- Views in a list

at_get : (l : List View) (i : ℕ) (a : View) → get_elem? l i ≡ some a → (i < length l) × (get_or l i a ≡ a)
at_get [] i a e = absurd (some-ne-none a (sym e))
at_get (x ∷ xs) zero a e = (omega arith, some-injective x a e)
at_get (x ∷ xs) (suc i) a e = let r = at_get xs i a e in (omega arith, r.1)

-- a new view, in a sum over the views
sum_after : (f : View → ℕ) (views : List View) (id : ℕ) (v w : View) → get_elem? views id ≡ some v → sum_by f (set views id w) + f v ≡ sum_by f views + f w
sum_after f views id v w at =
    let there = at_get views id v at in
    ap (λ (u : View). sum_by f (set views id w) + f u) (sym there.1) ∙ sum_by-set f views id w v there.0

sum_split : (f : View → ℕ) (views : List View) (id : ℕ) (v left right : View) → get_elem? views id ≡ some v → f left + f right ≡ f v → sum_by f (set views id left ++ right ∷ []) ≡ sum_by f views
sum_split f views id v left right at cut =
    omega (arith, sum_after f views id v left at, sum_by_push f (set views id left) right, cut)

sum_join : (f : View → ℕ) (views : List View) (id : ℕ) (v : View) (other : ℕ) (w both gone : View) → get_elem? views id ≡ some v → get_elem? (set views id both) other ≡ some w → f both + f gone ≡ f v + f w
    → sum_by f (set (set views id both) other gone) ≡ sum_by f views
sum_join f views id v other w both gone at there put =
    omega (arith, sum_after f views id v both at, sum_after f (set views id both) other w gone there, put)

-- a fact of each view, when one view changes, and when one comes
each_set : (P : View → Type 0) (views : List View) (id : ℕ) (w : View) → ((k : ℕ) (u : View) → get_elem? views k ≡ some u → P u) → P w → (k : ℕ) (u : View) → get_elem? (set views id w) k ≡ some u → P u
each_set P views id w others new k u e =
    elim (at_set views id k w u e) [ inl here ↦ subst P here.1 new | inr there ↦ others k u there.1 ]

each_push : (P : View → Type 0) (views : List View) (w : View) → ((k : ℕ) (u : View) → get_elem? views k ≡ some u → P u) → P w → (k : ℕ) (u : View) → get_elem? (views ++ w ∷ []) k ≡ some u → P u
each_push P views w others new k u e =
    elim (at_snoc views w u k e) [ inl there ↦ others k u there | inr here ↦ subst P here new ]

-- Splits

cut_first : (f : Share → ℕ) (shares : List Share) → sum_by f (other_shares shares) + sum_by f (first_share shares) ≡ sum_by f shares
cut_first f [] = refl
cut_first f (s ∷ shares) = omega (arith, sum_by-cons f s shares)

cut_length : (shares : List Share) → length (other_shares shares) + length (first_share shares) ≡ length shares
cut_length [] = refl
cut_length (s ∷ shares) = omega arith

other_few : (shares : List Share) → All (λ s. length s.drawn ≤ 2 ^ 40) shares → All (λ s. length s.drawn ≤ 2 ^ 40) (other_shares shares)
other_few [] few = few
other_few (s ∷ shares) few = All-tail (λ s. length s.drawn ≤ 2 ^ 40) s shares few

first_few : (shares : List Share) → All (λ s. length s.drawn ≤ 2 ^ 40) shares → All (λ s. length s.drawn ≤ 2 ^ 40) (first_share shares)
first_few [] few = few
first_few (s ∷ shares) few = All-cons (λ s. length s.drawn ≤ 2 ^ 40) s [] (All-head (λ s. length s.drawn ≤ 2 ^ 40) s shares few) (All-nil (λ s. length s.drawn ≤ 2 ^ 40))

-- a view is cut in two, and both halves together have what it had
split_keeps : (passes n id : ℕ) (views : List View) (v left right : View) → get_elem? views id ≡ some v → IsKept passes n views
    → ((f : Share → ℕ) → sum_by f left.shares + sum_by f right.shares ≡ sum_by f v.shares) → length left.shares + length right.shares ≡ length v.shares → Fits passes n left → Fits passes n right
    → IsKept passes n (set views id left ++ right ∷ [])
split_keeps passes n id views v left right at is cut lengths fits_left fits_right =
    record {
      count = sum_split (λ v. drawn_count v.shares) views id v left right at (cut (λ s. length s.drawn)) ∙ is.count;
      once = λ x. sum_split (λ v. times_drawn x v.shares) views id v left right at (cut (λ s. times x s.drawn)) ∙ is.once x;
      numbers = λ i. sum_split (λ v. times_numbered i v.shares) views id v left right at (cut (λ s. if nat_eq s.number i then 1 else 0)) ∙ is.numbers i;
      all = sum_split (λ v. length v.shares) views id v left right at lengths ∙ is.all;
      each = each_push (Fits passes n) (set views id left) right (each_set (Fits passes n) views id left is.each fits_left) fits_right;
    }

pub cuts_first : (passes id : ℕ) (v : View) → Splits (Keeps passes) id v (with_shares v (other_shares v.shares)) (with_shares v (first_share v.shares))
cuts_first passes id v s kept at =
    let is = kept.2 in
    let fits = is.each id v at in
    let lengths = cut_length v.shares in
    let left : Fits passes kept.0 (with_shares v (other_shares v.shares)) = record { seen = fits.seen; few = other_few v.shares fits.few; told = λ some. fits.told (omega (arith, lengths)) } in
    let right : Fits passes kept.0 (with_shares v (first_share v.shares)) = record { seen = fits.seen; few = first_few v.shares fits.few; told = λ some. fits.told (omega (arith, lengths)) } in
    (kept.0, kept.1, split_keeps passes kept.0 id s.views v (with_shares v (other_shares v.shares)) (with_shares v (first_share v.shares)) at is (λ f. cut_first f v.shares) lengths left right)

pub notes : (passes id : ℕ) (v : View) → Splits (Keeps passes) id v v (note_of v)
notes passes id v s kept at =
    let is = kept.2 in
    let fits = is.each id v at in
    let right : Fits passes kept.0 (note_of v) = record { seen = fits.seen; few = All-nil (λ s. length s.drawn ≤ 2 ^ 40); told = λ some. absurd (omega arith) } in
    (kept.0, kept.1, split_keeps passes kept.0 id s.views v v (note_of v) at is (λ f. omega arith) (omega arith) fits right)

-- Joins

gone_fits : (passes n : ℕ) → Fits passes n spent
gone_fits passes n = record { seen = omega arith; few = All-nil (λ s. length s.drawn ≤ 2 ^ 40); told = λ some. absurd (omega arith) }

put : (f : Share → ℕ) (v w : View) → sum_by f (joined v w).shares + sum_by f spent.shares ≡ sum_by f v.shares + sum_by f w.shares
put f v w = omega (arith, sum_by-append f w.shares v.shares)

-- a view with a pass takes in another view
pub takes_in : (passes id : ℕ) (v : View) (other : ℕ) (w : View) → 0 < length v.shares → Joins (Keeps passes) id v other w (joined v w) spent
takes_in passes id v other w has s kept at apart there =
    let n = kept.0 in
    let is = kept.2 in
    let both = joined v w in
    let mine = is.each id v at in
    let theirs : Fits passes n w = elim (at_set s.views id other both w there) [ inl here ↦ absurd (apart here.0) | inr was ↦ is.each other w was.1 ] in
    let together : Fits passes n both = record {
      seen = omega (arith, mine.seen, theirs.seen);
      few = All-append (λ s. length s.drawn ≤ 2 ^ 40) w.shares v.shares theirs.few mine.few;
      told = λ some. mine.told has;
    } in (
      n,
      kept.1,
      record {
        count = sum_join (λ v. drawn_count v.shares) s.views id v other w both spent at there (put (λ s. length s.drawn) v w) ∙ is.count;
        once = λ x. sum_join (λ v. times_drawn x v.shares) s.views id v other w both spent at there (put (λ s. times x s.drawn) v w) ∙ is.once x;
        numbers = λ i. sum_join (λ v. times_numbered i v.shares) s.views id v other w both spent at there (put (λ s. if nat_eq s.number i then 1 else 0) v w) ∙ is.numbers i;
        all = sum_join (λ v. length v.shares) s.views id v other w both spent at there (omega (arith, length-append w.shares v.shares)) ∙ is.all;
        each = each_set (Fits passes n) (set s.views id both) other spent (each_set (Fits passes n) s.views id both is.each together) (gone_fits passes n);
      },
    )

-- Draws

few_in_all : (passes n : ℕ) (views : List View) → ((k : ℕ) (v : View) → get_elem? views k ≡ some v → Fits passes n v) → sum_by (λ v. drawn_count v.shares) views ≤ sum_by (λ v. length v.shares) views * 2 ^ 40
few_in_all passes n [] each = omega arith
few_in_all passes n (v ∷ views) each =
    let counts : sum_by (λ v. drawn_count v.shares) (v ∷ views) ≡ drawn_count v.shares + sum_by (λ v. drawn_count v.shares) views = sum_by-cons (λ v. drawn_count v.shares) v views in
    let lengths : sum_by (λ v. length v.shares) (v ∷ views) ≡ length v.shares + sum_by (λ v. length v.shares) views = sum_by-cons (λ v. length v.shares) v views in
    let here : drawn_count v.shares ≤ length v.shares * 2 ^ 40 = sum_by-le (λ s. length s.drawn) (2 ^ 40) v.shares (each 0 v refl).few in
    omega (arith, counts, lengths, here, few_in_all passes n views (λ k u e. each (suc k) u e))

one_more : (x n : ℕ) → (if nat_lt x n then 1 else 0) + times x (n ∷ []) ≡ (if nat_lt x (n + 1) then 1 else 0)
one_more x n = grind (arith, nat_tests)

times-push : (x : ℕ) (xs : List ℕ) (n : ℕ) → times x (xs ++ n ∷ []) ≡ times x xs + times x (n ∷ [])
times-push x xs n = sum_by-append (λ y. if nat_eq y x then 1 else 0) xs (n ∷ [])

fits_later : (passes n : ℕ) (v : View) → Fits passes n v → Fits passes (n + 1) v
fits_later passes n v fits = record { seen = omega (arith, fits.seen); few = fits.few; told = fits.told }

-- a view with one pass
abbrev pub single : ℕ → ℕ → Share → View
single passes seen s = record { passes = passes; seen = seen; shares = s ∷ [] }

draw_keeps : (passes n id p seen : ℕ) (s : Share) (views : List View) → length s.drawn < 2 ^ 40 → IsKept passes n views → get_elem? views id ≡ some (single p seen s) → IsKept passes (n + 1) (set views id (single p (n + 1) (with_drawn s n)))
draw_keeps passes n id p seen s views left is at =
    let v = single p seen s in
    let t = with_drawn s n in
    let w = single p (n + 1) t in
    let long : length t.drawn ≡ length s.drawn + 1 = omega (arith, length-append s.drawn (n ∷ [])) in
    let fits = is.each id v at in
    let new : Fits passes (n + 1) w = record {
      seen = omega arith;
      few = All-cons (λ s. length s.drawn ≤ 2 ^ 40) t [] (omega (arith, long)) (All-nil (λ s. length s.drawn ≤ 2 ^ 40));
      told = λ some. fits.told (omega arith);
    } in
    record {
      count = omega (arith, sum_after (λ v. drawn_count v.shares) views id v w at, is.count, long);
      once = λ x.
          let split : times x t.drawn ≡ times x s.drawn + times x (n ∷ []) = times-push x s.drawn n in
          omega (arith, sum_after (λ v. times_drawn x v.shares) views id v w at, is.once x, split, one_more x n);
      numbers = λ i. omega (arith, sum_after (λ v. times_numbered i v.shares) views id v w at, is.numbers i);
      all = omega (arith, sum_after (λ v. length v.shares) views id v w at, is.all);
      each = each_set (Fits passes (n + 1)) views id w (λ k u e. fits_later passes n u (is.each k u e)) new;
    }

draws_one : (passes slots id p seen : ℕ) (s : Share) (c : List (ℕ × Unit {0})) → passes ≤ 65536 → length s.drawn < 2 ^ 40
    → Allows (Keeps passes) slots id (single p seen s, c) 0 (λ n. (n + 1) % 2 ^ 64) (Draws (step slots 0 1 0 none) (single p seen s, c))
draws_one passes slots id p seen s c most left state kept long at fits =
    let n = kept.0 in
    let is = kept.2 in
    let v = single p seen s in
    let w = single p (n + 1) (with_drawn s n) in
    let after = draw_keeps passes n id p seen s state.views left is at in
    let most_drawn : n + 1 ≤ passes * 2 ^ 40 = omega (arith, few_in_all passes (n + 1) (set state.views id w) after.each, after.all, after.count) in
    let below : n + 1 < 2 ^ 64 = omega (arith, most_drawn) in
    let told : p ≡ passes = (is.each id v at).told (omega arith) in
    let P : List ℕ → Type 0 = λ ws. (w : View) × (a : Act (Unit {0})) × Valid state.homes c a × Keeps passes (stepped (record { words = ws; homes = state.homes; views = state.views }) 0 ((slice_index ws 0 + 1) % 2 ^ 64) id c w a) × Draws (step slots 0 1 0 none) (v, c) (slice_index ws 0) (w, carried_after c a) in
    subst P (sym kept.1) (w, keeps, tt, (n + 1, ap (λ m. m ∷ []) (mod-eq_of_lt below), after), ((is.each id v at).seen, omega (arith, most_drawn, told), refl))

pub draws : (passes slots id : ℕ) (v : View) (c : List (ℕ × Unit {0})) → passes ≤ 65536 → v.shares ≡ only v.shares ∷ [] → length (only v.shares).drawn < 2 ^ 40
    → Allows (Keeps passes) slots id (v, c) 0 (λ n. (n + 1) % 2 ^ 64) (Draws (step slots 0 1 0 none) (v, c))
draws passes slots id v c most one left =
    subst (λ (u : View). Allows (Keeps passes) slots id (u, c) 0 (λ n. (n + 1) % 2 ^ 64) (Draws (step slots 0 1 0 none) (u, c))) (λ i. with_shares v (sym one i)) (draws_one passes slots id v.passes v.seen (only v.shares) c most left)

-- Looks

sum_none : (f : Share → ℕ) (shares : List Share) → length shares ≡ 0 → sum_by f shares ≡ 0
sum_none f [] empty = refl
sum_none f (s ∷ shares) empty = absurd (omega arith)

all_none : (f : Share → ℕ) (views : List View) → sum_by (λ v. length v.shares) views ≡ 0 → sum_by (λ v. sum_by f v.shares) views ≡ 0
all_none f [] empty = refl
all_none f (v ∷ views) empty =
    let lengths : sum_by (λ v. length v.shares) (v ∷ views) ≡ length v.shares + sum_by (λ v. length v.shares) views = sum_by-cons (λ v. length v.shares) v views in
    let sums : sum_by (λ v. sum_by f v.shares) (v ∷ views) ≡ sum_by f v.shares + sum_by (λ v. sum_by f v.shares) views = sum_by-cons (λ v. sum_by f v.shares) v views in
    omega (arith, sums, sum_none f v.shares (omega (arith, lengths)), all_none f views (omega (arith, lengths)))

-- a view with all passes has all that was drawn
has_whole : (f : Share → ℕ) (views : List View) (id : ℕ) (v : View) → get_elem? views id ≡ some v → length v.shares ≡ sum_by (λ v. length v.shares) views → sum_by f v.shares ≡ sum_by (λ v. sum_by f v.shares) views
has_whole f views id v at whole =
    let rest = all_none f (set views id spent) (omega (arith, sum_after (λ v. length v.shares) views id v spent at, whole)) in
    omega (arith, sum_after (λ v. sum_by f v.shares) views id v spent at, rest)

pub looks : (passes slots id : ℕ) (v : View) (c : List (ℕ × Unit {0})) → Allows (Keeps passes) slots id (v, c) 0 (λ n. n) (Looks (step slots 0 0 0 none) (v, c))
looks passes slots id v c state kept long at fits =
    let n = kept.0 in
    let is = kept.2 in
    let mine = is.each id v at in
    let all : HasAll v → KnowsAll n v = λ has.
    let told : v.passes ≡ passes = mine.told has.0 in
    let whole : length v.shares ≡ sum_by (λ v. length v.shares) state.views = has.1 ∙ told ∙ sym is.all in (
      (λ x. has_whole (λ s. times x s.drawn) state.views id v at whole ∙ is.once x),
      has_whole (λ s. length s.drawn) state.views id v at whole ∙ is.count,
      λ i. has_whole (λ s. if nat_eq s.number i then 1 else 0) state.views id v at whole ∙ is.numbers i ∙ ap (λ p. once_below p i) (sym told),
      omega (arith, few_in_all passes n state.views is.each, is.count, is.all, told),
    ) in
    let P : List ℕ → Type 0 = λ ws. (w : View) × (a : Act (Unit {0})) × Valid state.homes c a × Keeps passes (stepped (record { words = ws; homes = state.homes; views = state.views }) 0 (slice_index ws 0) id c w a) × Looks (step slots 0 0 0 none) (v, c) (slice_index ws 0) (w, carried_after c a) in
    subst P (sym kept.1) (v, keeps, tt, (n, refl, subst (IsKept passes n) (sym (set_again state.views id v at)) is), (refl, mine.seen, all))

-- The start

numbers_from : (i count x : ℕ) → times_numbered x (unused_shares i count) + once_below i x ≡ once_below (i + count) x
numbers_from i zero x = grind (arith, nat_tests)
numbers_from i (suc count) x =
    let more = sum_by-cons (λ (s : Share). if nat_eq s.number x then 1 else 0) (record { number = i; drawn = [] }) (unused_shares (i + 1) count) in
    let rest = numbers_from (i + 1) count x in
    let step : times_numbered x (record { number = i; drawn = [] } ∷ []) + once_below i x ≡ once_below (i + 1) x = grind (arith, nat_tests) in
    let same : once_below (i + 1 + count) x ≡ once_below (i + suc count) x = ap (λ m. once_below m x) (omega arith) in
    omega (arith, more, rest, step, same)

unused_none : (f : Share → ℕ) → ((i : ℕ) → f (record { number = i; drawn = [] }) ≡ 0) → (i count : ℕ) → sum_by f (unused_shares i count) ≡ 0
unused_none f zeros i zero = refl
unused_none f zeros i (suc count) =
    let more = sum_by-cons f (record { number = i; drawn = [] }) (unused_shares (i + 1) count) in
    omega (arith, more, zeros i, unused_none f zeros (i + 1) count)

pub length-unused : (i count : ℕ) → length (unused_shares i count) ≡ count
length-unused i zero = refl
length-unused i (suc count) = ap suc (length-unused (i + 1) count)

unused_few : (i count : ℕ) → All (λ s. length s.drawn ≤ 2 ^ 40) (unused_shares i count)
unused_few i zero = All-nil (λ s. length s.drawn ≤ 2 ^ 40)
unused_few i (suc count) = All-cons (λ s. length s.drawn ≤ 2 ^ 40) (record { number = i; drawn = [] }) (unused_shares (i + 1) count) (omega arith) (unused_few (i + 1) count)

pub begins : (passes : ℕ) → Keeps passes (opening (0 ∷ []) [] (first_view passes))
begins passes =
    let shares = unused_shares 0 passes in
    let numbers : (i : ℕ) → times_numbered i shares ≡ once_below passes i = λ i.
    let same : once_below (0 + passes) i ≡ once_below passes i = ap (λ m. once_below m i) (omega arith) in
    let below : once_below 0 i ≡ 0 = grind (arith, nat_tests) in
    omega (arith, numbers_from 0 passes i, same, below) in
    let fits : Fits passes 0 (first_view passes) = record { seen = omega arith; few = unused_few 0 passes; told = λ some. refl } in (
      0,
      refl,
      record {
        count = omega (arith, unused_none (λ s. length s.drawn) (λ i. refl) 0 passes);
        once = λ x.
            let below : once_below 0 x ≡ 0 = grind (arith, nat_tests) in
            omega (arith, unused_none (λ s. times x s.drawn) (λ i. refl) 0 passes, below);
        numbers = λ i. omega (arith, numbers i);
        all = omega (arith, length-unused 0 passes);
        each = one fits;
      },
    )
  where
    one : Fits passes 0 (first_view passes) → (k : ℕ) (v : View) → get_elem? (first_view passes ∷ []) k ≡ some v → Fits passes 0 v
    one fits zero v e = subst (Fits passes 0) (some-injective (first_view passes) v e) fits
    one fits (suc k) v e = absurd (some-ne-none v (sym e))
