-- The journals of nodes that stand in several cells: which entries they have, and how they grow.
use Rattle.std.proofs.Common.{◌≡◌, ◌≢◌, ◌⊎◌, ℕ, zero, suc, ◌<◌, ◌≤◌, Bool, List, [], ◌∷◌, ◌++◌, refl, sym, ◌∙◌, ap, subst, inl, inr, arith, append-nil}
use Rattle.std.specs.Prelude.{slice_get, slice_set, filter, fold}
use Rattle.std.specs.declared.option.Option.TheVariants.{Some}
use Rattle.std.specs.List.{Contains, AllZip, All}
use Rattle.std.proofs.lemmas.Bool.Decides.{eqb_tells}
use Rattle.std.proofs.lemmas.List.Elements.{All-head, All-tail}
use Rattle.protocol.specs.Report.{Ascend}
use Rattle.journals.specs.declared.node.NodeEntry.{NodeEntry}
use Rattle.locked_nodes.specs.Cells.{CellView, numbers}
use Rattle.locked_nodes.specs.Joined.{join}
use Rattle.phase_threads.specs.Standing.{add_cell, node_journal}
use Rattle.locked_nodes.proofs.lemmas.Joins.{AreUnder, AreFrom, join_cases, join_left, join_right, join_own, join_other, join_more, join_ascends}
use Rattle.lists.proofs.lemmas.Members.{Contains-head, Contains-none, Contains-rest, Contains-cons_cases, all_from_members, member_of_all, place_of, Contains-slice_get}

-- the cell's part in the journal of node i
added : (i : ℕ) (acc : List NodeEntry) (c : CellView) → c.charter.number ≡ i → add_cell i acc c ≡ join acc c.journal
added i acc c is = elim (eqb_tells c.charter.number i) [ inl same ↦ rw same.0 refl | inr other ↦ absurd (other.1 is) ]

passed : (i : ℕ) (acc : List NodeEntry) (c : CellView) → c.charter.number ≢ i → add_cell i acc c ≡ acc
passed i acc c not = elim (eqb_tells c.charter.number i) [ inl same ↦ absurd (not same.1) | inr other ↦ rw other.0 refl ]

-- ---- which entries

-- the entry stands in a cell of node i
pub record IsIn (cells : List CellView) (i : ℕ) (e : NodeEntry) : Type 0 where
  pub cell : CellView
  pub there : Contains cells cell
  pub number : cell.charter.number ≡ i
  pub stands : Contains cell.journal e

add_cases : (i : ℕ) (acc : List NodeEntry) (c : CellView) (cs : List CellView) (e : NodeEntry) → Contains (add_cell i acc c) e → Contains acc e ⊎ IsIn (c ∷ cs) i e
add_cases i acc c cs e h = elim (eqb_tells c.charter.number i) [
  | inl same ↦ elim (join_cases acc c.journal e (subst (λ (l : List NodeEntry). Contains l e) (added i acc c same.1) h)) [
    | inl was ↦ inl was
    | inr new ↦ inr (record { cell = c; there = Contains-head c cs; number = same.1; stands = new })
  ]
  | inr other ↦ inl (subst (λ (l : List NodeEntry). Contains l e) (passed i acc c other.1) h)
]

fold_cases : (i : ℕ) (cells : List CellView) (acc : List NodeEntry) (e : NodeEntry) → Contains (fold (add_cell i) acc cells) e → Contains acc e ⊎ IsIn cells i e
fold_cases i [] acc e h = inl h
fold_cases i (c ∷ cs) acc e h = elim (fold_cases i cs (add_cell i acc c) e h) [
  | inl was ↦ add_cases i acc c cs e was
  | inr q ↦ inr (record { cell = q.cell; there = Contains-rest q.cell c cs q.there; number = q.number; stands = q.stands })
]

add_keeps : (i : ℕ) (acc : List NodeEntry) (c : CellView) (e : NodeEntry) → Contains acc e → Contains (add_cell i acc c) e
add_keeps i acc c e h = elim (eqb_tells c.charter.number i) [
  | inl same ↦ subst (λ (l : List NodeEntry). Contains l e) (sym (added i acc c same.1)) (join_left acc c.journal e h)
  | inr other ↦ subst (λ (l : List NodeEntry). Contains l e) (sym (passed i acc c other.1)) h
]

fold_keeps : (i : ℕ) (cells : List CellView) (acc : List NodeEntry) (e : NodeEntry) → Contains acc e → Contains (fold (add_cell i) acc cells) e
fold_keeps i [] acc e h = h
fold_keeps i (c ∷ cs) acc e h = fold_keeps i cs (add_cell i acc c) e (add_keeps i acc c e h)

fold_has : (i : ℕ) (cells : List CellView) (acc : List NodeEntry) (cell : CellView) (e : NodeEntry) → Contains cells cell → cell.charter.number ≡ i → Contains cell.journal e → Contains (fold (add_cell i) acc cells) e
fold_has i [] acc cell e there is at = absurd (Contains-none cell there)
fold_has i (c ∷ cs) acc cell e there is at = elim (Contains-cons_cases cell c cs there) [
  | inl same ↦ (
      let n : c.charter.number ≡ i = ap (λ (x : CellView). x.charter.number) (sym same) ∙ is in
      let h = subst (λ (x : CellView). Contains x.journal e) same at in
      fold_keeps i cs (add_cell i acc c) e (subst (λ (l : List NodeEntry). Contains l e) (sym (added i acc c n)) (join_right acc c.journal e h))
      )
  | inr rest ↦ fold_has i cs (add_cell i acc c) cell e rest is at
]

pub journal_cases : (cells : List CellView) (i : ℕ) (e : NodeEntry) → Contains (node_journal cells i) e → IsIn cells i e
journal_cases cells i e h = elim (fold_cases i cells [] e h) [ inl none ↦ absurd (Contains-none e none) | inr q ↦ q ]

pub journal_has : (cells : List CellView) (cell : CellView) (e : NodeEntry) → Contains cells cell → Contains cell.journal e → Contains (node_journal cells cell.charter.number) e
journal_has cells cell e there at = fold_has cell.charter.number cells [] cell e there refl at

-- ---- how it grows

-- a cell has only entries more, from this number on, from which it had none
pub record GoesOnAs (from : ℕ) (old new : CellView) : Type 0 where
  pub number : new.charter.number ≡ old.charter.number
  pub more : List NodeEntry
  pub grown : new.journal ≡ old.journal ++ more
  pub under : AreUnder from old.journal
  pub later : AreFrom from more

record HasGrown (from : ℕ) (old new : List NodeEntry) : Type 0 where
  more : List NodeEntry
  is : new ≡ old ++ more
  later : AreFrom from more

join_under : (n : ℕ) (xs ys : List NodeEntry) → AreUnder n xs → AreUnder n ys → AreUnder n (join xs ys)
join_under n xs ys a b = all_from_members (λ e. e.number < n) (join xs ys) (λ e there. elim (join_cases xs ys e there) [ inl x ↦ member_of_all (λ e. e.number < n) xs a e x | inr y ↦ member_of_all (λ e. e.number < n) ys b e y ])

join_from : (n : ℕ) (xs ys : List NodeEntry) → AreFrom n xs → AreFrom n ys → AreFrom n (join xs ys)
join_from n xs ys a b = all_from_members (λ e. n ≤ e.number) (join xs ys) (λ e there. elim (join_cases xs ys e there) [ inl x ↦ member_of_all (λ e. n ≤ e.number) xs a e x | inr y ↦ member_of_all (λ e. n ≤ e.number) ys b e y ])

fold_on : (i from : ℕ) (old new : List CellView) (acc more : List NodeEntry) → AllZip (GoesOnAs from) old new → AreUnder from acc → AreFrom from more → HasGrown from (fold (add_cell i) acc old) (fold (add_cell i) (acc ++ more) new)
fold_on i from [] [] acc more z under later = record { more = more; is = refl; later = later }
fold_on i from [] (y ∷ ys) acc more z under later = absurd z
fold_on i from (x ∷ xs) [] acc more z under later = absurd z
fold_on i from (x ∷ xs) (y ∷ ys) acc more z under later = elim (eqb_tells x.charter.number i) [
  | inl same ↦ (
      let g = z.0 in
      let a : add_cell i (acc ++ more) y ≡ join acc x.journal ++ join more g.more =
      added i (acc ++ more) y (g.number ∙ same.1) ∙ ap (join (acc ++ more)) g.grown ∙ join_more from acc x.journal more g.more under g.under later g.later in
      let rest = fold_on i from xs ys (join acc x.journal) (join more g.more) z.1 (join_under from acc x.journal under g.under) (join_from from more g.more later g.later) in
      moved (ap (λ (l : List NodeEntry). fold (add_cell i) l xs) (added i acc x same.1)) (ap (λ (l : List NodeEntry). fold (add_cell i) l ys) a) rest
      )
  | inr other ↦ (
      let rest = fold_on i from xs ys acc more z.1 under later in
      moved (ap (λ (l : List NodeEntry). fold (add_cell i) l xs) (passed i acc x other.1)) (ap (λ (l : List NodeEntry). fold (add_cell i) l ys) (passed i (acc ++ more) y (λ is. other.1 (sym z.0.number ∙ is)))) rest
      )
]
  where
    moved : {a b a' b' : List NodeEntry} → a' ≡ a → b' ≡ b → HasGrown from a b → HasGrown from a' b'
    moved {a} {b} {a'} {b'} e f h = record { more = h.more; is = f ∙ h.is ∙ ap (λ (l : List NodeEntry). l ++ h.more) (sym e); later = h.later }

-- the journal of a node has only entries more
pub record JournalGrows (from : ℕ) (old new : List NodeEntry) : Type 0 where
  pub more : List NodeEntry
  pub grown : new ≡ old ++ more
  pub later : (e : NodeEntry) → Contains more e → from ≤ e.number

pub journal_on : (i from : ℕ) (old new : List CellView) → AllZip (GoesOnAs from) old new → JournalGrows from (node_journal old i) (node_journal new i)
journal_on i from old new z =
    let g = fold_on i from old new [] [] z tt tt in
    record { more = g.more; grown = g.is; later = member_of_all (λ e. from ≤ e.number) g.more g.later }

-- ---- one entry more in one cell

tail_on : (i : ℕ) (e : NodeEntry) (cells : List CellView) (acc : List NodeEntry) → AreUnder e.number acc → All (λ c. AreUnder e.number c.journal) cells → fold (add_cell i) (acc ++ e ∷ []) cells ≡ fold (add_cell i) acc cells ++ e ∷ []
tail_on i e [] acc under all = refl
tail_on i e (c ∷ cs) acc under all =
    let own = All-head (λ c. AreUnder e.number c.journal) c cs all in
    let rest = All-tail (λ c. AreUnder e.number c.journal) c cs all in
    elim (eqb_tells c.charter.number i) [
      | inl same ↦ (
          let a : add_cell i (acc ++ e ∷ []) c ≡ join acc c.journal ++ e ∷ [] =
          added i (acc ++ e ∷ []) c same.1 ∙ ap (join (acc ++ e ∷ [])) (sym (append-nil c.journal))
          ∙ join_more e.number acc c.journal (e ∷ []) [] under own (omega arith, tt) tt in
          ap (λ (l : List NodeEntry). fold (add_cell i) l cs) a ∙ tail_on i e cs (join acc c.journal) (join_under e.number acc c.journal under own) rest
          ∙ ap (λ (l : List NodeEntry). fold (add_cell i) l cs ++ e ∷ []) (sym (added i acc c same.1))
          )
      | inr other ↦ (
          ap (λ (l : List NodeEntry). fold (add_cell i) l cs) (passed i (acc ++ e ∷ []) c other.1) ∙ tail_on i e cs acc under rest
          ∙ ap (λ (l : List NodeEntry). fold (add_cell i) l cs ++ e ∷ []) (sym (passed i acc c other.1))
          )
    ]

add_under : (i n : ℕ) (acc : List NodeEntry) (c : CellView) → AreUnder n acc → AreUnder n c.journal → AreUnder n (add_cell i acc c)
add_under i n acc c a b = elim (eqb_tells c.charter.number i) [
  | inl same ↦ subst (AreUnder n) (sym (added i acc c same.1)) (join_under n acc c.journal a b)
  | inr other ↦ subst (AreUnder n) (sym (passed i acc c other.1)) a
]

fold_snoc : (i : ℕ) (e : NodeEntry) (cells : List CellView) (k : ℕ) (was now : CellView) (acc : List NodeEntry) → slice_get cells k ≡ Some was → was.charter.number ≡ i → now.charter.number ≡ i → now.journal ≡ was.journal ++ e ∷ []
    → AreUnder e.number acc → All (λ c. AreUnder e.number c.journal) cells → fold (add_cell i) acc (slice_set cells k now) ≡ fold (add_cell i) acc cells ++ e ∷ []
fold_snoc i e [] k was now acc at is own grown under all = absurd (Contains-none was (Contains-slice_get [] k was at))
fold_snoc i e (c ∷ cs) zero was now acc at is own grown under all =
    let same : c ≡ was = cc in
    let mine = All-head (λ c. AreUnder e.number c.journal) c cs all in
    let rest = All-tail (λ c. AreUnder e.number c.journal) c cs all in
    let a : add_cell i acc now ≡ join acc c.journal ++ e ∷ [] =
    added i acc now own ∙ ap (join acc) (grown ∙ ap (λ (x : CellView). x.journal ++ e ∷ []) (sym same)) ∙ ap (λ (l : List NodeEntry). join l (c.journal ++ e ∷ [])) (sym (append-nil acc))
    ∙ join_more e.number acc c.journal [] (e ∷ []) under mine tt (omega arith, tt) in
    let b : add_cell i acc c ≡ join acc c.journal = added i acc c (ap (λ (x : CellView). x.charter.number) same ∙ is) in
    ap (λ (l : List NodeEntry). fold (add_cell i) l cs) a ∙ tail_on i e cs (join acc c.journal) (join_under e.number acc c.journal under mine) rest ∙ ap (λ (l : List NodeEntry). fold (add_cell i) l cs ++ e ∷ []) (sym b)
fold_snoc i e (c ∷ cs) (suc k) was now acc at is own grown under all =
    fold_snoc i e cs k was now (add_cell i acc c) at is own grown (add_under i e.number acc c under (All-head (λ c. AreUnder e.number c.journal) c cs all)) (All-tail (λ c. AreUnder e.number c.journal) c cs all)

fold_other : (i : ℕ) (cells : List CellView) (k : ℕ) (was now : CellView) (acc : List NodeEntry) → slice_get cells k ≡ Some was → was.charter.number ≢ i → now.charter.number ≢ i → fold (add_cell i) acc (slice_set cells k now) ≡ fold (add_cell i) acc cells
fold_other i [] k was now acc at is own = refl
fold_other i (c ∷ cs) zero was now acc at is own =
    let same : c ≡ was = cc in
    ap (λ (l : List NodeEntry). fold (add_cell i) l cs) (passed i acc now own ∙ sym (passed i acc c (λ e. is (ap (λ (x : CellView). x.charter.number) (sym same) ∙ e))))
fold_other i (c ∷ cs) (suc k) was now acc at is own = fold_other i cs k was now (add_cell i acc c) at is own

-- it is one entry more in the node's journal, whose number is above all, and none in the others'
pub journal_snoc : (cells : List CellView) (k : ℕ) (was now : CellView) (e : NodeEntry) → slice_get cells k ≡ Some was → now.charter.number ≡ was.charter.number → now.journal ≡ was.journal ++ e ∷ [] → All (λ c. AreUnder e.number c.journal) cells
    → node_journal (slice_set cells k now) was.charter.number ≡ node_journal cells was.charter.number ++ e ∷ []
journal_snoc cells k was now e at same grown all = fold_snoc was.charter.number e cells k was now [] at refl same grown tt all

pub journal_other : (cells : List CellView) (k i : ℕ) (was now : CellView) → slice_get cells k ≡ Some was → now.charter.number ≡ was.charter.number → was.charter.number ≢ i → node_journal (slice_set cells k now) i ≡ node_journal cells i
journal_other cells k i was now at same not = fold_other i cells k was now [] at not (λ e. not (sym same ∙ e))

-- a cell more
pub journal_more : (cells : List CellView) (c : CellView) (i : ℕ) → node_journal (cells ++ c ∷ []) i ≡ add_cell i (node_journal cells i) c
journal_more cells c i = at cells []
  where
    at : (cs : List CellView) (acc : List NodeEntry) → fold (add_cell i) acc (cs ++ c ∷ []) ≡ add_cell i (fold (add_cell i) acc cs) c
    at [] acc = refl
    at (x ∷ cs) acc = at cs (add_cell i acc x)

-- ---- one cell alone

fold_none : (i : ℕ) (cells : List CellView) (acc : List NodeEntry) → ((c : CellView) → Contains cells c → c.charter.number ≢ i) → fold (add_cell i) acc cells ≡ acc
fold_none i [] acc none = refl
fold_none i (c ∷ cs) acc none = ap (λ (l : List NodeEntry). fold (add_cell i) l cs) (passed i acc c (none c (Contains-head c cs))) ∙ fold_none i cs acc (λ d there. none d (Contains-rest d c cs there))

pub journal_none : (cells : List CellView) (i : ℕ) → ((c : CellView) → Contains cells c → c.charter.number ≢ i) → node_journal cells i ≡ []
journal_none cells i none = fold_none i cells [] none

-- the cell at this place is the only one of its node
abbrev pub IsAlone : List CellView → ℕ → ℕ → Type 0
IsAlone cells i k = (m : ℕ) (d : CellView) → slice_get cells m ≡ Some d → d.charter.number ≡ i → m ≡ k

not_zero : (m : ℕ) → suc m ≡ zero → ⊥
not_zero m e = omega (arith, e)

pub journal_alone : (cells : List CellView) (i k : ℕ) (c : CellView) → slice_get cells k ≡ Some c → c.charter.number ≡ i → IsAlone cells i k → node_journal cells i ≡ c.journal
journal_alone [] i k c at is alone = absurd (Contains-none c (Contains-slice_get [] k c at))
journal_alone (x ∷ cs) i zero c at is alone =
    let same : x ≡ c = cc in
    ap (λ (l : List NodeEntry). fold (add_cell i) l cs) (added i [] x (ap (λ (y : CellView). y.charter.number) same ∙ is))
    ∙ fold_none i cs x.journal (λ d there own. (let q = place_of cs d there in not_zero q.0 (alone (suc q.0) d q.1 own))) ∙ ap (λ (y : CellView). y.journal) same
journal_alone (x ∷ cs) i (suc k) c at is alone =
    let other : x.charter.number ≢ i = λ own. (let z = alone zero x refl own in omega (arith, z)) in
    ap (λ (l : List NodeEntry). fold (add_cell i) l cs) (passed i [] x other) ∙ journal_alone cs i k c at is (λ m d there own. (let z = alone (suc m) d there own in omega (arith, z)))

-- ---- what a test keeps that keeps entries of one cell alone

fold_own : (p : NodeEntry → Bool) (i : ℕ) (cells : List CellView) (acc : List NodeEntry) → ((d : CellView) → Contains cells d → d.charter.number ≡ i → filter p d.journal ≡ []) → filter p (fold (add_cell i) acc cells) ≡ filter p acc
fold_own p i [] acc none = refl
fold_own p i (c ∷ cs) acc none =
    fold_own p i cs (add_cell i acc c) (λ d there own. none d (Contains-rest d c cs there) own)
    ∙ elim (eqb_tells c.charter.number i) [
      | inl same ↦ ap (filter p) (added i acc c same.1) ∙ join_own p acc c.journal (none c (Contains-head c cs) same.1)
      | inr other ↦ ap (filter p) (passed i acc c other.1)
    ]

pub fold_filter : (p : NodeEntry → Bool) (i : ℕ) (cells : List CellView) (acc : List NodeEntry) (k : ℕ) (c : CellView) → slice_get cells k ≡ Some c → c.charter.number ≡ i → filter p acc ≡ []
    → ((m : ℕ) (d : CellView) → slice_get cells m ≡ Some d → d.charter.number ≡ i → m ≢ k → filter p d.journal ≡ []) → filter p (fold (add_cell i) acc cells) ≡ filter p c.journal
fold_filter p i [] acc k c at is none others = absurd (Contains-none c (Contains-slice_get [] k c at))
fold_filter p i (x ∷ cs) acc zero c at is none others =
    let same : x ≡ c = cc in
    fold_own p i cs (add_cell i acc x) (λ d there own. (let q = place_of cs d there in others (suc q.0) d q.1 own (not_zero q.0)))
    ∙ ap (filter p) (added i acc x (ap (λ (y : CellView). y.charter.number) same ∙ is)) ∙ join_other p acc x.journal none ∙ ap (λ (y : CellView). filter p y.journal) same
fold_filter p i (x ∷ cs) acc (suc k) c at is none others =
    fold_filter p i cs (add_cell i acc x) k c at is
    (elim (eqb_tells x.charter.number i) [
      | inl same ↦ ap (filter p) (added i acc x same.1) ∙ join_own p acc x.journal (others zero x refl same.1 (λ e. omega (arith, e))) ∙ none
      | inr other ↦ ap (filter p) (passed i acc x other.1) ∙ none
    ])
    (λ m d there own apart. others (suc m) d there own (λ e. apart (omega (arith, e))))

-- ---- in which order

-- no number stands in two cells of the node
abbrev pub AreApart : ℕ → List CellView → Type 0
AreApart i [] = Unit {0}
AreApart i (c ∷ cs) = ((x y : NodeEntry) → c.charter.number ≡ i → Contains c.journal x → IsIn cs i y → x.number ≢ y.number) × AreApart i cs

fold_ascends : (i : ℕ) (cells : List CellView) (acc : List NodeEntry) → Ascend (numbers acc) → All (λ c. Ascend (numbers c.journal)) cells → ((x y : NodeEntry) → Contains acc x → IsIn cells i y → x.number ≢ y.number) → AreApart i cells
    → Ascend (numbers (fold (add_cell i) acc cells))
fold_ascends i [] acc up all apart others = up
fold_ascends i (c ∷ cs) acc up all apart others = elim (eqb_tells c.charter.number i) [
  | inl same ↦ (
      let mine = join_ascends acc c.journal up (All-head (λ c. Ascend (numbers c.journal)) c cs all) (λ x y a b. apart x y a (record { cell = c; there = Contains-head c cs; number = same.1; stands = b })) in
      let e = added i acc c same.1 in
      fold_ascends i cs (add_cell i acc c) (subst (λ (l : List NodeEntry). Ascend (numbers l)) (sym e) mine) rest (λ x y a b. elim (join_cases acc c.journal x (subst (λ (l : List NodeEntry). Contains l x) e a)) [
        | inl was ↦ apart x y was (further y b)
        | inr new ↦ others.0 x y same.1 new b
      ]) others.1
      )
  | inr other ↦ (
      let e = passed i acc c other.1 in
      fold_ascends i cs (add_cell i acc c) (subst (λ (l : List NodeEntry). Ascend (numbers l)) (sym e) up) rest (λ x y a b. apart x y (subst (λ (l : List NodeEntry). Contains l x) e a) (further y b)) others.1
      )
]
  where
    rest : All (λ c. Ascend (numbers c.journal)) cs
    rest = All-tail (λ c. Ascend (numbers c.journal)) c cs all

    further : (y : NodeEntry) → IsIn cs i y → IsIn (c ∷ cs) i y
    further y b = record { cell = b.cell; there = Contains-rest b.cell c cs b.there; number = b.number; stands = b.stands }

pub journal_ascends : (cells : List CellView) (i : ℕ) → All (λ c. Ascend (numbers c.journal)) cells → AreApart i cells → Ascend (numbers (node_journal cells i))
journal_ascends cells i all apart = fold_ascends i cells [] tt all (λ x y a b. absurd (Contains-none x a)) apart
