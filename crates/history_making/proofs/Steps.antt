-- The steps of the loops over sorted drafts.
use Rattle.std.proofs.Common.{◌≡◌, ◌⊎◌, ℕ, suc, ◌+◌, ◌-◌, ◌*◌, ◌^◌, ◌<◌, ◌≤◌, Bool, true, false, cond, not, ◌&&◌, List, [], ◌∷◌, ◌++◌, length, map, reverse, take, drop, get_or, Option, option_map, MatchOption, refl, sym, subst, ◌∙◌, ap, inl, inr, arith, drop-cons}
use Rattle.std.specs.declared.option.Option.TheVariants.{None, Some}
use Rattle.std.specs.List.{slice_get, find, list_any}
use Rattle.std.specs.Borrow.{Bor}
use Rattle.std.proofs.Math.Seq.{drop-length}
use Rattle.std.proofs.lemmas.List.{take_more, take-append-drop, map-append, length-map, reverse-append}
use Rattle.std.proofs.lemmas.Option.{slice_get-map}
use Rattle.stamp_order.specs.declared.Stamp.{Stamp}
use Rattle.stamp_order.specs.Stamps.{same_stamp}
use Rattle.protocol.specs.History.{Entry, IsSorted}
use Rattle.protocol.specs.Report.{mark, AreRivals}
use Rattle.protocol.proofs.lemmas.Order.{same_stamp-≡, same_stamp-refl}
use Rattle.history_making.specs.Tellings.{told_entry}
use Rattle.history_making.specs.declared.draft.Draft.{Draft}
use Rattle.history_making.specs.Drafts.{entry_of, entries_of, entries_at, is_reading, is_of_version, is_of_some, IsNextMark, AreKept, AreCandidates}
use Rattle.history_making.proofs.Orders.{rivals_or_not}
use Rattle.history_making.proofs.Sweeps.{sweep, is_reader, sweep_nil, sweep_cons, sweep_length, are_kept, last_tells, next_tells}
use Rattle.history_making.proofs.Marking.{first_mark, next_mark}

-- a list is what stands before a place, the item there, and the rest
drop_at : {X : Type 0} (xs : List X) (k n : ℕ) (x : X) → k < length xs → n ≡ k + 1 → x ≡ get_or xs k x → drop k xs ≡ x ∷ drop n xs
drop_at xs k n x h e q =
    let d = drop-cons xs k x h in
    let m : n ≡ suc k = omega (arith, e) in
    d ∙ ap (λ y. y ∷ drop (suc k) xs) (sym q) ∙ ap (λ j. x ∷ drop j xs) (sym m)

take_at : {X : Type 0} (xs : List X) (k n : ℕ) (x : X) → k < length xs → n ≡ k + 1 → x ≡ get_or xs k x → take n xs ≡ take k xs ++ x ∷ []
take_at xs k n x h e q = ap (λ j. take j xs) e ∙ take_more xs k x h ∙ ap (λ y. take k xs ++ y ∷ []) (sym q)

cut_at : {X : Type 0} (xs : List X) (k n : ℕ) (x : X) → k < length xs → n ≡ k + 1 → x ≡ get_or xs k x → xs ≡ take k xs ++ x ∷ drop n xs
cut_at xs k n x h e q = sym (take-append-drop k xs) ∙ ap (λ ys. take k xs ++ ys) (drop_at xs k n x h e q)

pub map_reverse : {X Y : Type 0} (f : X → Y) (xs : List X) → map f (reverse xs) ≡ reverse (map f xs)
map_reverse f [] = refl
map_reverse f (x ∷ xs) =
    let rest = map_reverse f xs in
    ap (map f) (reverse-append (x ∷ []) xs) ∙ map-append f (reverse xs) (x ∷ []) ∙ ap (λ ys. ys ++ f x ∷ []) rest ∙ sym (reverse-append (f x ∷ []) (map f xs))

-- ---- what is kept

pub kept_first : (first : Stamp) (ds : List Draft) → [] ≡ sweep first (entries_of (take (length ds) ds)) (entries_of (drop (length ds) ds))
kept_first first ds = rw (drop-length ds) (sym (sweep_nil first (entries_of (take (length ds) ds))))

module _ (first : Stamp) (ds : List Draft) (n k : ℕ) (d : Draft) (below : k < length ds) (next : n ≡ k + 1) (at : d ≡ get_or ds k d) where
  pub read_step : (read : Option Entry) → read ≡ find is_reading (entries_of (drop n ds)) → cond (is_reading (entry_of d)) (Some (entry_of d)) read ≡ find is_reading (entries_of (drop k ds))
  read_step read r = rw (drop_at ds k n d below next at, r) refl

  pub kept_step : (read : Option Entry) → read ≡ find is_reading (entries_of (drop n ds)) → IsSorted (entries_of ds)
      → entries_at (not (is_of_some (entry_of d) (option_map entry_of (slice_get (take k ds) (length (take k ds) - 1)))) && not (same_stamp d.stamp.now first)) (is_of_some (entry_of d) read) (entry_of d) ++ sweep first (entries_of (take n ds)) (entries_of (drop n ds))
      ≡ sweep first (entries_of (take k ds)) (entries_of (drop k ds))
  kept_step read r s =
      let xs : List Entry = entries_of (take k ds) in
      let ys : List Entry = entries_of (drop n ds) in
      let e : Entry = entry_of d in
      let whole : entries_of ds ≡ xs ++ e ∷ ys = ap entries_of (cut_at ds k n d below next at) ∙ map-append entry_of (take k ds) (d ∷ drop n ds) in
      let t = rw whole at s in
      let last : is_of_some e (option_map entry_of (slice_get (take k ds) (length (take k ds) - 1))) ≡ list_any (is_of_version e) xs =
      ap (is_of_some e) (sym (slice_get-map entry_of (take k ds) (length (take k ds) - 1)) ∙ ap (λ j. slice_get xs (j - 1)) (sym (length-map (take k ds) entry_of))) ∙ sym (last_tells xs e ys t) in
      let seen : is_of_some e read ≡ list_any (is_reader e) ys = ap (is_of_some e) r ∙ sym (next_tells xs e ys t) in
      let front : entries_of (take n ds) ≡ xs ++ e ∷ [] = ap entries_of (take_at ds k n d below next at) ∙ map-append entry_of (take k ds) (d ∷ []) in
      let rest : entries_of (drop k ds) ≡ e ∷ ys = ap entries_of (drop_at ds k n d below next at) in
      rw (last, seen, front, rest) (sym (sweep_cons first xs e ys))

pub kept_whole : (first : Stamp) (ds ks : List Draft) → entries_of ks ≡ sweep first [] (entries_of ds) → IsSorted (entries_of ds) → AreCandidates (entries_of ds) → AreKept first (entries_of ds) (entries_of ks)
kept_whole first ds ks q s c = rw q (are_kept first (entries_of ds) s c)

pub kept_length : (first : Stamp) (ds ks : List Draft) → entries_of ks ≡ sweep first [] (entries_of ds) → length ks ≤ 2 * length ds
kept_length first ds ks q = let l = ap length q in omega (arith, l, sweep_length first [] (entries_of ds), length-map ks entry_of, length-map ds entry_of)

-- ---- marks

-- the draft is the last of the first i, and this is its mark
pub record IsMarked (ds : List Draft) (i : ℕ) (d : Draft) (m : ℕ) : Type 0 where
  pub place : ℕ
  pub below : place < length ds
  pub last : i ≡ place + 1
  pub at : d ≡ get_or ds place d
  pub mark : m ≡ mark (entries_of ds) (entry_of d)
  pub low : m ≤ i

abbrev Last : Type 0
Last = Option (Bor Draft × ℕ)

module _ (ds : List Draft) (sorted : IsSorted (entries_of ds)) (i : ℕ) (d : Draft) (below : i < length ds) (at : d ≡ get_or ds i d) where
  first_is : (n : ℕ) → i ≡ 0 → n ≡ 1 → IsMarked ds (i + 1) d n
  first_is n z e = record {
    place = i;
    below = below;
    last = refl;
    at = at;
    mark = e ∙ sym marks;
    low = omega (arith, e);
  }
    where
      whole : ds ≡ d ∷ drop (i + 1) ds
      whole = sym (ap (λ j. drop j ds) z) ∙ drop_at ds i (i + 1) d below refl at

      marks : mark (entries_of ds) (entry_of d) ≡ 1
      marks = let q = ap entries_of whole in ap (λ h. mark h (entry_of d)) q ∙ first_mark (entry_of d) (entries_of (drop (i + 1) ds)) (rw q at sorted)

  more_is : (c : Draft) (m n : ℕ) → IsMarked ds i c m → IsNextMark (entry_of c) m (entry_of d) n → IsMarked ds (i + 1) d n
  more_is c m n p q = record {
    place = i;
    below = below;
    last = refl;
    at = at;
    mark = next_mark (entries_of ds) (entries_of (take p.place ds)) (entry_of c) (entry_of d) (entries_of (drop (i + 1) ds)) cut (rw cut at sorted) n (subst (λ k. IsNextMark (entry_of c) k (entry_of d) n) p.mark q);
    low = small (rivals_or_not (entry_of c) (entry_of d));
  }
    where
      cut : entries_of ds ≡ entries_of (take p.place ds) ++ entry_of c ∷ entry_of d ∷ entries_of (drop (i + 1) ds)
      cut = ap entries_of (cut_at ds p.place i c p.below p.last p.at ∙ ap (λ es. take p.place ds ++ c ∷ es) (drop_at ds i (i + 1) d below refl at)) ∙ map-append entry_of (take p.place ds) (c ∷ d ∷ drop (i + 1) ds)

      stamps : AreRivals (entry_of c) (entry_of d) → (b : Bool) → same_stamp c.stamp.now d.stamp.now ≡ b → n ≤ i + 1
      stamps r true e = omega (arith, q.same r (same_stamp-≡ c.stamp.now d.stamp.now e), p.low)
      stamps r false e = omega (arith, q.more r (λ f. let k : same_stamp d.stamp.now d.stamp.now ≡ false = rw f at e in let l = same_stamp-refl d.stamp.now in cc), p.low)

      small : AreRivals (entry_of c) (entry_of d) ⊎ (AreRivals (entry_of c) (entry_of d) → ⊥) → n ≤ i + 1
      small (inr apart) = omega (arith, q.other apart)
      small (inl r) = stamps r (same_stamp c.stamp.now d.stamp.now) refl

  pub marked_step : (last : Last) → MatchOption last (i ≡ 0) (λ p. IsMarked ds i p.0.now p.1) → (n : ℕ) → MatchOption last (n ≡ 1) (λ p. IsNextMark (entry_of p.0.now) p.1 (entry_of d) n) → IsMarked ds (i + 1) d n
  marked_step None h n q = first_is n h q
  marked_step (Some p) h n q = more_is p.0.now p.1 n h q

pub room : (ds : List Draft) (i : ℕ) (last : Last) → MatchOption last (i ≡ 0) (λ p. IsMarked ds i p.0.now p.1) → i < length ds → length ds < 2 ^ 32 → MatchOption last (Unit {0}) (λ p. p.1 < 2 ^ 32 - 1)
room ds i None h l k = tt
room ds i (Some p) h l k = omega (arith, h.low, l, k)

pub told_step : (h : List Entry) (ds : List Draft) (i : ℕ) (d : Draft) → i < length ds → d ≡ get_or ds i d → map (told_entry h) (entries_of (take i ds)) ++ told_entry h (entry_of d) ∷ [] ≡ map (told_entry h) (entries_of (take (i + 1) ds))
told_step h ds i d below at =
    let q : entries_of (take (i + 1) ds) ≡ entries_of (take i ds) ++ entry_of d ∷ [] = ap entries_of (take_at ds i (i + 1) d below refl at) ∙ map-append entry_of (take i ds) (d ∷ []) in
    sym (ap (map (told_entry h)) q ∙ map-append (told_entry h) (entries_of (take i ds)) (entry_of d ∷ []))

-- rivals of one stamp have one mark, and others the next one
pub same_mark : (e f : Entry) (m : ℕ) → AreRivals e f → same_stamp f.stamp e.stamp ≡ true → IsNextMark e m f m
same_mark e f m r s = record { same = λ a b. refl; more = λ a n. absurd (n (sym (same_stamp-≡ f.stamp e.stamp s))); other = λ n. absurd (n r) }

pub more_mark : (e f : Entry) (m : ℕ) → AreRivals e f → same_stamp f.stamp e.stamp ≡ false → IsNextMark e m f (m + 1)
more_mark e f m r s = record {
  same = λ a b. absurd (let k : same_stamp f.stamp f.stamp ≡ false = rw b at s in let l = same_stamp-refl f.stamp in cc);
  more = λ a n. refl;
  other = λ n. absurd (n r);
}
