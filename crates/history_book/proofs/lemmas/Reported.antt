-- What the entries, spent writes and counts of a history need to be those of a report.
use Rattle.std.proofs.Common.{◌≡◌, ℕ, zero, suc, ◌-◌, ◌^◌, ◌<◌, ◌≤◌, Bool, not, List, [], ◌∷◌, map, length, take, count_by, get_or, Option, refl, sym, ap, ◌∙◌, arith}
use Rattle.std.specs.Prelude.{slice_get, IfSome, All}
use Rattle.std.specs.declared.option.Option.TheVariants.{None, Some}
use Rattle.std.specs.declared.cmp.Ordering.TheVariants.{Less}
use Rattle.std.specs.List.{Contains}
use Rattle.std.proofs.lemmas.List.{length-map, length-take-le, get_or-map, get_or-take}
use Rattle.std.proofs.lemmas.List.Elements.{All-from_recursion, Contains-get_or}
use Rattle.std.proofs.lemmas.Option.{get_or_from_slice_get, slice_get_within}
use Rattle.message_texts.proofs.lemmas.Spelling.{are_bytes}
use Rattle.protocol.specs.Messages.{IsBytes}
use Rattle.protocol.specs.History.{Entry as FullEntry, Kind as FullKind, is_read, IsSorted}
use Rattle.protocol.specs.History.Kind.{Write as FullWrite, Foreign as FullForeign, Read as FullRead}
use Rattle.protocol.specs.Report.{Ascend, SpentWrite, is_ended, is_pending, line_cmp}
use Rattle.protocol.proofs.lemmas.Entries.{each_of, sorted_before}
use Rattle.protocol.proofs.lemmas.Lists.{Contains-take}
use Rattle.protocol.proofs.lemmas.Marks.{lines_as_entries}
use Rattle.history_making.specs.declared.entry.Entry.{Entry}
use Rattle.history_making.specs.declared.entry.Spent.{Spent}
use Rattle.history_book.specs.Judging.{entry_of}
use Rattle.history_making.specs.Kinds.{full_kind}
use Rattle.history_making.specs.Numbers.{HasNumbers, HasClient}
use Rattle.history_book.specs.ReportTexts.{last_of, HasPlaces, IsTold, MayFollow, IsToldSpent, MayFollowSpent, AreToldEntries, AreToldSpent, is_done, done_count}
use Rattle.history_making.specs.Orders.{key_cmp}
use Rattle.history_making.specs.Tellings.{told_kind, told_entry, told_spent}
use Rattle.history_making.proofs.lemmas.Counted.{count_cons, count_by-map}
use Rattle.lists.proofs.lemmas.Members.{Contains-head, Contains-rest, Contains-map_cases, Contains-slice_get}

if_some : {X : Type 0} (P : X → Type 0) (o : Option X) → ((x : X) → o ≡ Some x → P x) → IfSome o P
if_some P None f = tt
if_some P (Some x) f = f x refl

-- the last of those before a place is the one just before it
last_is : {X : Type 0} (xs : List X) (i : ℕ) (x : X) → i < length xs → last_of (take i xs) ≡ Some x → (j : ℕ) × (i ≡ suc j) × (get_or xs j x ≡ x)
last_is xs zero x l q =
    let w = slice_get_within (take zero xs) (length (take zero xs) - 1) x q in
    absurd (omega (arith, w))
last_is xs (suc j) x l q =
    let size : length (take (suc j) xs) ≡ suc j = length-take-le (suc j) xs (omega (arith, l)) in
    let at : length (take (suc j) xs) - 1 ≡ j = omega (arith, size) in
    let there : slice_get (take (suc j) xs) j ≡ Some x = ap (λ (k : ℕ). slice_get (take (suc j) xs) k) (sym at) ∙ q in
    (j, refl, sym (get_or-take (suc j) xs j x (omega arith)) ∙ get_or_from_slice_get (take (suc j) xs) j x x there)

-- ---- entries

-- a history's entry has the places that its kind wants, and a value of so many bytes
pub record IsWhole (size : ℕ) (e : FullEntry) : Type 0 where
  pub places : HasPlaces (told_kind e.kind) e.start e.end
  pub length : length e.value ≡ size
  pub bytes : IsBytes e.value

kind_kept : (k : FullKind) → is_read (full_kind (told_kind k)) ≡ is_read k
kind_kept FullRead = refl
kind_kept FullWrite = refl
kind_kept FullForeign = refl

key_is_line : (h : List FullEntry) (d e : FullEntry) → key_cmp (told_entry h d) (told_entry h e) ≡ line_cmp h d e
unfolding line_cmp
key_is_line h d e = rw (kind_kept d.kind, kind_kept e.kind) refl

told_whole : (size : ℕ) → 1 ≤ size → (h : List FullEntry) (x : FullEntry) → IsWhole size x → HasNumbers (told_entry h x) → IsTold (told_entry h x)
told_whole size some h x w n =
    let l = w.length in
    record {
      block = n.block;
      time = n.time;
      writer = n.writer;
      mark = omega arith;
      mark_fits = n.mark;
      client = n.client;
      places = w.places;
      bytes = are_bytes x.value (All-from_recursion (λ b. b < 256) x.value w.bytes);
      some_bytes = omega (arith, l, some);
    }

module _ (size : ℕ) (some : 1 ≤ size) (h : List FullEntry) (sorted : IsSorted h) (whole : (e : FullEntry) → Contains h e → IsWhole size e) (numbers : All HasNumbers (map (told_entry h) h)) where
  told : List Entry
  told = map (told_entry h) h

  sized : (e : Entry) → Contains told e → length e.value ≡ size
  unfolding told
  sized e k =
      let c = Contains-map_cases (told_entry h) h e k in
      let w = (whole c.0 c.1).length in
      rw c.2 w

  -- what is told at a place is the entry there
  told_at : (i : ℕ) (e : Entry) (d : FullEntry) → i < length h → get_or told i e ≡ e → e ≡ told_entry h (get_or h i d)
  unfolding told
  told_at i e d l q = sym q ∙ get_or-map (told_entry h) h i d e l

  is_told : (i : ℕ) (e : Entry) (x : FullEntry) → i < length told → get_or told i e ≡ e → e ≡ told_entry h x → Contains h x → IsTold e
  unfolding told
  is_told i e x l q is k =
      let n = numbers i e l in
      let m : HasNumbers (told_entry h x) = rw (q, is) at n in
      rw is (told_whole size some h x (whole x k) m)

  less_told : (last e : Entry) (x y : FullEntry) → last ≡ told_entry h x → e ≡ told_entry h y → key_cmp (told_entry h x) (told_entry h y) ≡ Less → key_cmp last e ≡ Less
  less_told last e x y p q l = rw (p, q) l

  is_above : (i : ℕ) (e last : Entry) → i < length h → get_or told i e ≡ e → i < length told → last_of (take i told) ≡ Some last → key_cmp last e ≡ Less
  is_above i e last l q within top =
      let d : FullEntry = entry_of e in
      let p = last_is told i last within top in
      let low : p.0 < i = omega (arith, p.1) in
      let inside : p.0 < length h = omega (arith, low, l) in
      let a = told_at i e d l q in
      let b = told_at p.0 last d inside p.2 in
      let x = get_or h p.0 d in
      let y = get_or h i d in
      let less = key_is_line h x y ∙ lines_as_entries h x y (Contains-get_or h p.0 d inside) (Contains-get_or h i d l) ∙ sorted_before h i p.0 d sorted l low in
      less_told last e x y b a less

  may_follow : (i : ℕ) (e : Entry) → slice_get told i ≡ Some e → MayFollow (take i told) e
  unfolding told
  may_follow i e q =
      let within = slice_get_within told i e q in
      let l : i < length h = omega (arith, within, length-map h (told_entry h)) in
      let at = get_or_from_slice_get told i e e q in
      let d : FullEntry = entry_of e in
      record {
        told = is_told i e (get_or h i d) within at (told_at i e d l at) (Contains-get_or h i d l);
        size = if_some (λ (first : Entry). length e.value ≡ length first.value) (slice_get (take i told) 0)
            (λ first f. sized e (Contains-slice_get told i e q) ∙ sym (sized first (Contains-take i told first (Contains-slice_get (take i told) 0 first f))));
        above = if_some (λ (last : Entry). key_cmp last e ≡ Less) (last_of (take i told)) (λ last f. is_above i e last l at within f);
      }

  pub told_entries : AreToldEntries (map (told_entry h) h)
  unfolding told
  told_entries = may_follow

-- ---- spent writes

ascend_before : (xs : List ℕ) (i j : ℕ) → Ascend xs → i < length xs → j < i → get_or xs j 0 < get_or xs i 0
ascend_before [] i j up l k = absurd (omega (arith, l))
ascend_before (x ∷ xs) zero j up l k = absurd (omega (arith, k))
ascend_before (x ∷ xs) (suc i) zero up l k = each_of (λ y. x < y) xs i 0 (omega (arith, l)) up.0
ascend_before (x ∷ xs) (suc i) (suc j) up l k = ascend_before xs i j up.1 (omega (arith, l)) (omega (arith, k))

module _ (xs : List SpentWrite) (up : Ascend (map (λ (x : SpentWrite). x.start) xs)) (places : (x : SpentWrite) → Contains xs x → (x.start < 2 ^ 64) × (x.end < 2 ^ 64)) (numbers : All HasClient (map told_spent xs)) where
  spent : List Spent
  spent = map told_spent xs

  start_at : (i : ℕ) (e : Spent) → i < length xs → get_or spent i e ≡ e → get_or (map (λ (x : SpentWrite). x.start) xs) i 0 ≡ e.start
  unfolding spent
  start_at i e l q =
      let d : SpentWrite = record { client = e.client; start = e.start; end = e.end } in
      get_or-map (λ (x : SpentWrite). x.start) xs i d 0 l ∙ ap (λ (x : Spent). x.start) (sym (get_or-map told_spent xs i d e l) ∙ q)

  is_spent_told : (i : ℕ) (e : Spent) → Contains spent e → i < length spent → get_or spent i e ≡ e → IsToldSpent e
  unfolding spent
  is_spent_told i e k l q =
      let c = Contains-map_cases told_spent xs e k in
      let p = places c.0 c.1 in
      let n = numbers i e l in
      let is = c.2 in
      record { client = rw q at n; start = rw is (p.0); end = rw is (p.1) }

  may_follow_spent : (i : ℕ) (e : Spent) → slice_get spent i ≡ Some e → MayFollowSpent (take i spent) e
  unfolding spent
  may_follow_spent i e q =
      let within = slice_get_within spent i e q in
      let l : i < length xs = omega (arith, within, length-map xs told_spent) in
      let at = get_or_from_slice_get spent i e e q in
      record {
        told = is_spent_told i e (Contains-slice_get spent i e q) within at;
        later = if_some (λ (last : Spent). last.start < e.start) (last_of (take i spent))
            (λ last f. let p = last_is spent i last within f in
            let low : p.0 < i = omega (arith, p.1) in
            let less = ascend_before (map (λ (x : SpentWrite). x.start) xs) i p.0 up (omega (arith, l, length-map xs (λ (x : SpentWrite). x.start))) low in
            rw (start_at p.0 last (omega (arith, low, l)) p.2, start_at i e l at) at less);
      }

  pub told_spent_writes : AreToldSpent (map told_spent xs)
  unfolding spent
  told_spent_writes = may_follow_spent

-- ---- counts

count_same : {X : Type 0} (p q : X → Bool) (xs : List X) → ((x : X) → Contains xs x → p x ≡ q x) → count_by p xs ≡ count_by q xs
count_same p q [] same = refl
count_same p q (x ∷ xs) same =
    let rest = count_same p q xs (λ y k. same y (Contains-rest y x xs k)) in
    count_cons p x xs ∙ rw (same x (Contains-head x xs), rest) (sym (count_cons q x xs))

done_is_ended : (k : FullKind) (start end : Option ℕ) → HasPlaces (told_kind k) start end → is_done (told_kind k) end ≡ not (is_pending end)
done_is_ended FullRead start None p = refl
done_is_ended FullRead start (Some n) p = refl
done_is_ended FullWrite start None p = refl
done_is_ended FullWrite start (Some n) p = refl
done_is_ended FullForeign start None p = refl
done_is_ended FullForeign start (Some n) p = absurd (let none : Some n ≡ None = p.1 in cc)

pub done_told : (size : ℕ) (all h : List FullEntry) → ((e : FullEntry) → Contains h e → IsWhole size e) → done_count (map (told_entry all) h) ≡ count_by is_ended h
done_told size all h whole =
    count_by-map (λ (e : Entry). is_done e.kind e.end) (told_entry all) h
    ∙ count_same (λ (e : FullEntry). is_done (told_kind e.kind) e.end) is_ended h (λ e k. done_is_ended e.kind e.start e.end (whole e k).places)
