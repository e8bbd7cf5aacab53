-- The flaws of the time with one entry as their second.
use Rattle.std.proofs.Common.{◌≡◌, ℕ, ◌<◌, ◌≤◌, List, length, take, Option, Some, None, sym, ap, ◌∙◌, subst, arith, inl, inr}
use Rattle.std.specs.Prelude.{slice_get, IfNone, IfSome}
use Rattle.std.proofs.lemmas.Bool.{cases_lt}
use Rattle.std.proofs.lemmas.List.{length-take-le}
use Rattle.std.proofs.lemmas.Option.{slice_get_within}
use Rattle.history_making.specs.declared.entry.Entry.{Entry}
use Rattle.history_making.proofs.lemmas.Fronts.{slice_get-take}
use Rattle.history_book.specs.declared.judging.FlawKind.TheVariants.{Time}
use Rattle.history_book.specs.Judging.{IsTimeFlaw, IsLeastFlaw}
use Rattle.history_book.specs.Sweeps.{IsStartUpTo, StartsAfter}

-- no flaw of the time has this entry as its second
abbrev NoTimeFlaw : List Entry → ℕ → Type 0
NoTimeFlaw entries place = (i : ℕ) → IsTimeFlaw entries i place → ⊥

-- the starts before the place are bounded
abbrev AreStartsUpTo : List Entry → ℕ → Entry → Option ℕ → Type 0
AreStartsUpTo entries place entry latest =
    (k : ℕ) (e : Entry) (start : ℕ) → k < place → slice_get entries k ≡ Some e → e.block ≡ entry.block → e.start ≡ Some start → IsStartUpTo latest start

pub same_entry : (entries : List Entry) (i : ℕ) (x y : Entry) → slice_get entries i ≡ Some x → slice_get entries i ≡ Some y → x ≡ y
same_entry entries i x y p q = let both : Some x ≡ Some y = sym p ∙ q in cc

-- the second of a flaw has an end, and an earlier entry of its block starts after it
after_end : (entries : List Entry) (place : ℕ) (entry : Entry) (i : ℕ) → slice_get entries place ≡ Some entry → (flaw : IsTimeFlaw entries i place) → (entry.end ≡ Some flaw.end) × StartsAfter entry.block flaw.end flaw.earlier
after_end entries place entry i there flaw =
    let same = same_entry entries place flaw.later entry flaw.there_too there in (
      ap (λ (e : Entry). e.end) (sym same) ∙ flaw.ends,
      record { of_block = flaw.block ∙ ap (λ (e : Entry). e.block) same; start = flaw.start; starts = flaw.starts; after = flaw.before },
    )

pub no_end : (entries : List Entry) (place : ℕ) (entry : Entry) → slice_get entries place ≡ Some entry → entry.end ≡ None → NoTimeFlaw entries place
no_end entries place entry there none i flaw =
    let ends = (after_end entries place entry i there flaw).0 in
    let clash : None ≡ Some flaw.end = sym none ∙ ends in
    absurd cc

pub no_start : (entries : List Entry) (place : ℕ) (entry : Entry) (latest : Option ℕ) → slice_get entries place ≡ Some entry → AreStartsUpTo entries place entry latest → latest ≡ None → NoTimeFlaw entries place
no_start entries place entry None there starts none i flaw =
    let s = (after_end entries place entry i there flaw).1 in starts i flaw.earlier s.start flaw.order flaw.there s.of_block s.starts
no_start entries place entry (Some latest) there starts none i flaw = absurd cc

pub low_starts : (entries : List Entry) (place : ℕ) (entry : Entry) (latest : Option ℕ) (end bound : ℕ) → slice_get entries place ≡ Some entry → AreStartsUpTo entries place entry latest
    → entry.end ≡ Some end → latest ≡ Some bound → bound ≤ end → NoTimeFlaw entries place
low_starts entries place entry None end bound there starts ends is low i flaw = absurd cc
low_starts entries place entry (Some latest) end bound there starts ends is low i flaw =
    let h = after_end entries place entry i there flaw in
    let s = h.1 in
    let up : s.start ≤ latest = starts i flaw.earlier s.start flaw.order flaw.there s.of_block s.starts in
    let after = s.after in
    let same_end : Some flaw.end ≡ Some end = sym h.0 ∙ ends in
    let a : flaw.end ≡ end = cc in
    let b : latest ≡ bound = cc in
    absurd (omega arith)

pub front_length : (entries : List Entry) (place : ℕ) (entry : Entry) → slice_get entries place ≡ Some entry → place ≡ length (take place entries)
front_length entries place entry there = let lt = slice_get_within entries place entry there in sym (length-take-le place entries (omega arith))

-- what a search among the entries before the place tells
pub record Searched (entries : List Entry) (block end : ℕ) (r : Option ℕ) : Type 0 where
  pub none : IfNone r ((k : ℕ) (e : Entry) → slice_get entries k ≡ Some e → StartsAfter block end e → ⊥)
  pub first : IfSome r (λ i. (k : ℕ) (e : Entry) → k < i → slice_get entries k ≡ Some e → StartsAfter block end e → ⊥)
  pub there : IfSome r (λ i. (e : Entry) × (slice_get entries i ≡ Some e) × StartsAfter block end e)

-- the flaw that the search tells
pub record Found (entries : List Entry) (place : ℕ) (r : Option ℕ) : Type 0 where
  pub none : IfNone r (NoTimeFlaw entries place)
  pub flaw : IfSome r (λ first. IsLeastFlaw Time entries first place)
  pub within : IfSome r (λ first. first < place)

pub found : (entries : List Entry) (place : ℕ) (entry : Entry) (end : ℕ) (r : Option ℕ) → slice_get entries place ≡ Some entry → entry.end ≡ Some end → Searched (take place entries) entry.block end r → Found entries place r
found entries place entry end None there ends s = record {
  none = λ i flaw.
      let h = after_end entries place entry i there flaw in
      let same : Some flaw.end ≡ Some end = sym h.0 ∙ ends in
      let is : flaw.end ≡ end = cc in
      s.none i flaw.earlier (slice_get-take place entries i flaw.order ∙ flaw.there) (subst (λ (n : ℕ). StartsAfter entry.block n flaw.earlier) is h.1);
  flaw = tt;
  within = tt;
}
found entries place entry end (Some first) there ends s =
    let e = s.there.0 in
    let at = s.there.1 in
    let after = s.there.2 in
    let lt : first < place = omega (arith, slice_get_within (take place entries) first e at, front_length entries place entry there) in
    record {
      none = tt;
      flaw = record {
        is = record {
          order = lt;
          earlier = e;
          later = entry;
          there = sym (slice_get-take place entries first lt) ∙ at;
          there_too = there;
          block = after.of_block;
          start = after.start;
          end = end;
          starts = after.starts;
          ends = ends;
          before = after.after;
        };
        least = λ i flaw.
            let h = after_end entries place entry i there flaw in
            let same : Some flaw.end ≡ Some end = sym h.0 ∙ ends in
            let is : flaw.end ≡ end = cc in
            elim (cases_lt i first) [
              | inl low ↦ absurd (s.first i flaw.earlier low (slice_get-take place entries i flaw.order ∙ flaw.there) (subst (λ (n : ℕ). StartsAfter entry.block n flaw.earlier) is h.1))
              | inr le ↦ le
            ];
      };
      within = lt;
    }
