-- The mark of an entry, from that of the entry before it.
use Rattle.std.proofs.Common.{◌≡◌, ◌⊎◌, ℕ, ◌+◌, ◌≤◌, true, List, ◌∷◌, ◌++◌, sym, ◌∙◌, ap, inl, inr, arith}
use Rattle.std.specs.declared.cmp.Ordering.TheVariants.{Less}
use Rattle.std.specs.List.{Contains}
use Rattle.std.proofs.lemmas.List.Elements.{Contains-append_cases, Contains-append_right}
use Rattle.stamp_order.specs.Stamps.{before}
use Rattle.protocol.specs.History.{Entry, entry_cmp, IsSorted}
use Rattle.protocol.specs.Report.{mark, AreRivals}
use Rattle.protocol.proofs.lemmas.Order.{≼-cases, ≼-refl, not_both}
use Rattle.protocol.proofs.lemmas.Entries.{member_of, stamp_upto}
use Rattle.protocol.proofs.lemmas.Marks.{marks_ascend, marks_equal, marks_step, rivals_on}
use Rattle.history_making.specs.Drafts.{IsNextMark}
use Rattle.history_making.proofs.Orders.{rivals_or_not, rival_back, rival_between}
use Rattle.history_making.proofs.Sweeps.{sorted_pair, sorted_after, sorted_rest}
use Rattle.lists.proofs.lemmas.Members.{Contains-head, Contains-rest, Contains-cons_cases}

positive : (h : List Entry) (e : Entry) → 1 ≤ mark h e
positive h e = omega arith

-- of rivals the later one has no lower mark
no_lower : (h : List Entry) (e f : Entry) → Contains h e → AreRivals e f → entry_cmp e f ≡ Less → mark h e ≤ mark h f
no_lower h e f k r l = elim (≼-cases e.stamp f.stamp (stamp_upto e f (sym r.block) l)) [
  | inl b ↦ omega (arith, marks_ascend h e f k r b)
  | inr s ↦ omega (arith, marks_equal h e f (sym r.block) s)
]

-- no rival at or after an entry has the mark before its own
not_behind : (h : List Entry) (e f : Entry) (es : List Entry) → Contains h e → ((z : Entry) → Contains es z → entry_cmp e z ≡ Less) → Contains (e ∷ es) f → AreRivals e f → mark h f + 1 ≡ mark h e → ⊥
not_behind h e f es k s l r q = elim (Contains-cons_cases f e es l) [
  | inl i ↦ (let m = ap (mark h) i in omega (arith, m, q))
  | inr b ↦ omega (arith, no_lower h e f k r (s f b), q)
]

pub first_mark : (e : Entry) (es : List Entry) → IsSorted (e ∷ es) → mark (e ∷ es) e ≡ 1
first_mark e es s = elim (marks_step (e ∷ es) e) [
  | inl q ↦ q
  | inr f ↦ absurd (not_behind (e ∷ es) e f.0 es (Contains-head e es) (λ z k. member_of (λ g. entry_cmp e g ≡ Less) es z s.0 k) f.1 f.2 f.3)
]

-- the draft is the last of the first i, and this is its mark

module _ (h : List Entry) (xs : List Entry) (d e : Entry) (es : List Entry) (is : h ≡ xs ++ d ∷ e ∷ es) (sorted : IsSorted (xs ++ d ∷ e ∷ es)) where
  d_there : Contains h d
  d_there = rw is (Contains-append_right xs (d ∷ e ∷ es) d (Contains-head d (e ∷ es)))

  e_there : Contains h e
  e_there = rw is (Contains-append_right xs (d ∷ e ∷ es) e (Contains-rest e d (e ∷ es) (Contains-head e es)))

  less : entry_cmp d e ≡ Less
  less = sorted_after xs d (e ∷ es) sorted e (Contains-head e es)

  behind : (z : Entry) → Contains es z → entry_cmp e z ≡ Less
  behind z k = member_of (λ g. entry_cmp e g ≡ Less) es z (sorted_rest xs (d ∷ e ∷ es) sorted).1.0 k

  -- a rival that has the mark before e's is d, or stands before d
  lower_rival : (f : Entry) → Contains h f → AreRivals e f → mark h f + 1 ≡ mark h e → (f ≡ d) ⊎ (Contains xs f × (entry_cmp f d ≡ Less))
  lower_rival f k r q = elim (Contains-append_cases xs (d ∷ e ∷ es) f (rw is at k)) [
    | inl l ↦ inr (l, sorted_pair xs d (e ∷ es) sorted f l)
    | inr l ↦ elim (Contains-cons_cases f d (e ∷ es) l) [ inl i ↦ inl i | inr m ↦ absurd (not_behind h e f es e_there behind m r q) ]
  ]

  one_more : AreRivals d e → before d.stamp e.stamp ≡ true → mark h e ≡ mark h d + 1
  one_more r b =
      let up = marks_ascend h d e d_there r b in
      elim (marks_step h e) [
        | inl q ↦ omega (arith, up, q, positive h d)
        | inr f ↦ elim (lower_rival f.0 f.1 f.2 f.3) [
          | inl i ↦ (let m = ap (mark h) i in omega (arith, f.3, m))
          | inr l ↦ omega (arith, no_lower h f.0 d f.1 (rivals_on f.0 e d (rival_back e f.0 f.2) (rival_back d e r)) l.1, f.3, up)
        ]
      ]

  from_one : (AreRivals d e → ⊥) → mark h e ≡ 1
  from_one n = elim (marks_step h e) [
    | inl q ↦ q
    | inr f ↦ absurd (elim (lower_rival f.0 f.1 f.2 f.3) [
      | inl i ↦ (let r = f.2 in n (rival_back e d (rw i at r)))
      | inr l ↦ (let back = rival_back e f.0 f.2 in n (rivals_on d f.0 e (rival_back f.0 d (rival_between f.0 d e l.1 less back)) back))
    ])
  ]

  pub next_mark : (n : ℕ) → IsNextMark d (mark h d) e n → n ≡ mark h e
  next_mark n m = elim (rivals_or_not d e) [
    | inr apart ↦ m.other apart ∙ sym (from_one apart)
    | inl r ↦ elim (≼-cases d.stamp e.stamp (stamp_upto d e (sym r.block) less)) [
      | inr s ↦ m.same r s ∙ marks_equal h d e (sym r.block) s
      | inl b ↦ m.more r (λ s. differ s b) ∙ sym (one_more r b)
    ]
  ]
    where
      differ : d.stamp ≡ e.stamp → before d.stamp e.stamp ≡ true → ⊥
      differ s b = not_both e.stamp e.stamp (rw s at b) (≼-refl e.stamp)
