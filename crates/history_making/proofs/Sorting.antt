-- Drafts that are sorted by the order of entries, no two of which start at one place.
use Rattle.std.proofs.Common.{◌≡◌, ℕ, suc, ◌<◌, ◌≤◌, Bool, true, false, cond, List, [], ◌∷◌, length, get_or, count_by, Option, refl, sym, ◌∙◌, ap, inl, inr, arith}
use Rattle.std.specs.declared.option.Option.TheVariants.{Some}
use Rattle.std.specs.declared.cmp.Ordering.{Ordering}
use Rattle.std.specs.declared.cmp.Ordering.TheVariants.{Less, Equal, Greater}
use Rattle.std.specs.Ordering.{is_lt, nat_cmp, ordering_then, ordering_reverse}
use Rattle.std.specs.List.{Contains}
use Rattle.std.specs.List.Sorted.{IsPermutation, IsSortedBy}
use Rattle.std.proofs.lemmas.Bool.{eq-eqb}
use Rattle.std.proofs.lemmas.List.Sorted.{ranks_by, sorted_far, sum_by-IsPermutation, Contains-permutation, IsPermutation-sym}
use Rattle.stamp_order.specs.Stamps.{stamp_cmp}
use Rattle.protocol.specs.History.{Entry, place_cmp, entry_cmp, is_read, IsSorted}
use Rattle.protocol.proofs.lemmas.Entries.{entry_total}
use Rattle.history_making.specs.declared.draft.Draft.{Draft}
use Rattle.history_making.proofs.lemmas.Counted.{count_cons}
use Rattle.history_making.specs.Drafts.{entry_of, entries_of, place_is, starts_at, HaveStarts}
use Rattle.lists.proofs.lemmas.Members.{Contains-head, Contains-none, Contains-rest, Contains-cons_cases, Contains-map_cases, all_from_members}
use Rattle.lists.proofs.lemmas.Orders.{then_equal}
use Rattle.protocol.proofs.lemmas.Keys.{place_exact}

last_equal : (a b c d e f : Ordering) → ordering_then a (ordering_then b (ordering_then c (ordering_then d (ordering_then e f)))) ≡ Equal → f ≡ Equal
last_equal a b c d e f h = (then_equal e f (then_equal d _ (then_equal c _ (then_equal b _ (then_equal a _ h).1).1).1).1).1

-- entries of one key have one start
same_start : (e f : Entry) → entry_cmp e f ≡ Equal → e.start ≡ f.start
unfolding entry_cmp
same_start e f h =
    place_exact e.start f.start
    (last_equal (nat_cmp e.block f.block) (stamp_cmp e.stamp f.stamp) (nat_cmp (is_read e.kind) (is_read f.kind)) (place_cmp e.end f.end) (nat_cmp e.client f.client) (place_cmp e.start f.start) h)

counted : (n : ℕ) (es : List Entry) (e : Entry) → Contains es e → e.start ≡ Some n → 1 ≤ count_by (starts_at n) es
counted n [] e h q = absurd (Contains-none e h)
counted n (x ∷ es) e h q =
    let rest = counted n es e in
    elim (Contains-cons_cases e x es h) [
      | inl i ↦ (let s : x.start ≡ Some n = rw i at q in let b : starts_at n x ≡ true = rw s (eq-eqb n n refl) in let l : cond {A = ℕ} (starts_at n x) 1 0 ≡ 1 = rw b refl in omega (arith, l, count_cons (starts_at n) x es))
      | inr l ↦ omega (arith, rest l q, count_cons (starts_at n) x es)
    ]

-- in a list without repeated starts the first start is in no other
apart : (x : Entry) (es : List Entry) → HaveStarts (x ∷ es) → (e : Entry) → Contains es e → x.start ≡ e.start → ⊥
apart x es h e k q =
    let s = h.some x (Contains-head x es) in
    let c = counted s.0 es e k (sym q ∙ s.1) in
    let b : starts_at s.0 x ≡ true = at s.0 x.start s.1 in
    let l : cond {A = ℕ} (starts_at s.0 x) 1 0 ≡ 1 = rw b refl in
    let o = h.once s.0 in
    omega (arith, c, l, o, count_cons (starts_at s.0) x es)
  where
    at : (n : ℕ) (o : Option ℕ) → o ≡ Some n → place_is n o ≡ true
    at n o e = rw e (eq-eqb n n refl)

starts_of_rest : (x : Entry) (es : List Entry) → HaveStarts (x ∷ es) → HaveStarts es
starts_of_rest x es h = record { some = λ e k. h.some e (Contains-rest e x es k); once = λ n. let o = h.once n in omega (arith, o, count_cons (starts_at n) x es) }

pub starts_permuted : (es fs : List Entry) → IsPermutation es fs → HaveStarts es → HaveStarts fs
starts_permuted es fs p h = record {
  some = λ e k. h.some e (Contains-permutation fs es e (IsPermutation-sym es fs p) k);
  once = λ n. let o = h.once n in omega (arith, o, sum_by-IsPermutation (λ e. cond (starts_at n e) 1 0) es fs p);
}

abbrev pub is_below : Draft → Draft → Bool
is_below x y = is_lt (entry_cmp (entry_of x) (entry_of y))

-- no later draft is below an earlier one
abbrev IsUp : List Draft → Type 0
IsUp ds = (i j : ℕ) (d : Draft) → i ≤ j → j < length ds → is_below (get_or ds j d) (get_or ds i d) ≡ false

not_below : (o : Ordering) → is_lt o ≡ false → (o ≡ Equal → ⊥) → o ≡ Greater
not_below Less h n = absurd (cc)
not_below Equal h n = absurd (n refl)
not_below Greater h n = refl

up_sorted : (ds : List Draft) → IsUp ds → HaveStarts (entries_of ds) → IsSorted (entries_of ds)
up_sorted [] u h = tt
up_sorted (x ∷ ds) u h = (
  all_from_members (λ f. entry_cmp (entry_of x) f ≡ Less) (entries_of ds) (λ e k.
      let m = Contains-map_cases entry_of ds e k in
      let i = m.1 in
      let q = i.2 in
      let b = u 0 (suc i.0) m.0 (omega arith) (omega (arith, i.1)) in
      let f : is_lt (entry_cmp (entry_of m.0) (entry_of x)) ≡ false = rw q at b in
      let g = not_below _ f (λ z. apart (entry_of x) (entries_of ds) h e k (sym (same_start (entry_of m.0) (entry_of x) z) ∙ ap (λ (w : Entry). w.start) (sym m.2))) in
      let l : entry_cmp (entry_of x) (entry_of m.0) ≡ Less = entry_total.antisymm (entry_of x) (entry_of m.0) ∙ ap ordering_reverse g in
      rw m.2 l),
  up_sorted ds (λ i j d k l. u (suc i) (suc j) d (omega (arith, k)) (omega (arith, l))) (starts_of_rest (entry_of x) (entries_of ds) h),
)

pub sorted_drafts : (ds : List Draft) → IsSortedBy is_below ds → HaveStarts (entries_of ds) → IsSorted (entries_of ds)
sorted_drafts ds s h = up_sorted ds (sorted_far is_below (ranks_by entry_total entry_of) ds s) h
