-- The journals of a run that has ended are those of a run of its plan.
use Rattle.std.proofs.Common.{◌≡◌, ◌⊎◌, ℕ, ◌+◌, ◌<◌, ◌≤◌, Bool, true, false, cond, List, [], ◌∷◌, ◌++◌, length, map, refl, sym, ◌∙◌, ap, subst, inl, inr, arith}
use Rattle.std.specs.Prelude.{◌==◌, count_by, nat_lt}
use Rattle.std.specs.declared.option.Option.TheVariants.{Some}
use Rattle.std.specs.List.{Contains, All, AllByRecursion}
use Rattle.std.proofs.lemmas.Bool.Decides.{eqb_tells, nat_tests}
use Rattle.std.proofs.lemmas.List.Sums.{sum_by-cons, sum_by-append}
use Rattle.std.proofs.lemmas.List.FromFn.{length-map-range_with_len}
use Rattle.std.proofs.lemmas.List.Elements.{Contains-append_cases, Contains-append_left, Contains-append_right, All-head, All-tail, All-contains}
use Rattle.wire_forms.specs.Liars.{has_number}
use Rattle.protocol.specs.Report.{Ascend}
use Rattle.quorum_rules.specs.Limits.{Numbers}
use Rattle.event_clock.specs.declared.rule.Share.{Share}
use Rattle.event_clock.specs.Passes.{ClockId, share_of}
use Rattle.event_clock.specs.Views.{times, times_drawn, once_below}
use Rattle.journals.specs.declared.node.NodeAct.{NodeAct}
use Rattle.journals.specs.declared.node.NodeEntry.{NodeEntry}
use Rattle.journals.specs.declared.desk.DeskAct.{DeskAct}
use Rattle.journals.specs.declared.desk.DeskAct.TheVariants.{Start, Crash, Call}
use Rattle.journals.specs.declared.desk.DeskEntry.{DeskEntry}
use Rattle.journals.specs.declared.desk.DeskJournal.{DeskJournal}
use Rattle.journals.specs.declared.whole.Journals.{Journals}
use Rattle.journals.specs.Acts.{new_state, NodeKept}
use Rattle.journals.specs.Desks.{new_desk, DeskKept}
use Rattle.journals.specs.Steps.{Step, side, IsOwn}
use Rattle.journals.specs.Steps.Step.{AtNode, AtDesk}
use Rattle.journals.specs.Journals.{IsNodeKept, IsDeskKept, PairsAgree, HasSide, IsEntry, NumbersBelow}
use Rattle.journals.specs.Phases.{Phase}
use Rattle.locked_nodes.specs.Cells.{CellView, KeptCell, numbers}
use Rattle.locked_nodes.specs.Shards.{OneCell, SeveralCells}
use Rattle.phase_threads.specs.Standing.{node_journal}
use Rattle.locked_nodes.proofs.lemmas.Joins.{below_tells}
use Rattle.client_desks.specs.Desks.{DeskView, KeptDesk, own_of, own_numbers, numbers_of, desk_entry}
use Rattle.plan_words.specs.declared.plan.Plan.{Plan}
use Rattle.plan_words.specs.Named.{clients}
use Rattle.plan_followed.specs.Asked.{nature, crash_after, conduct_of}
use Rattle.plan_followed.specs.Nodes.{Pruning}
use Rattle.plan_followed.specs.Followed.{AreFor}
use Rattle.plan_followed.specs.Laws.{OfPlans, HasConduct}
use Rattle.plan_followed.specs.Closed.{Ends}
use Rattle.phase_threads.specs.Standing.{HasSideIn, journal_at, journals_of}
use Rattle.phase_threads.specs.Ended.{HasEnded, RunsEnd}
use Rattle.phase_threads.proofs.lemmas.Nodes.{AreApart, journal_cases, journal_has, journal_ascends}
use Rattle.phase_threads.proofs.lemmas.Sharded.{node_is_kept}
use Rattle.phase_threads.proofs.lemmas.Cells.{journal_of, journal_is, past_range, entries_at, desk_at}
use Rattle.lists.proofs.lemmas.Members.{Contains-head, Contains-none, Contains-rest, Contains-cons_cases, Contains-map_cases, Contains-map}
use Rattle.locked_nodes.proofs.lemmas.Joining.{rises_ascend}

-- ---- numbers

-- what a desk did by itself, with its numbers
abbrev own_step : ℕ → ℕ → DeskAct → List (ℕ × Step)
own_step c n (Start op) = (n, AtDesk c (Start op)) ∷ []
own_step c n Crash = (n, AtDesk c Crash) ∷ []
own_step c n (Call way ask reply) = []

abbrev own_steps : ℕ → List DeskEntry → List (ℕ × Step)
own_steps c [] = []
own_steps c (e ∷ es) = own_step c e.number e.act ++ own_steps c es

abbrev desk_steps : List DeskView → List (ℕ × Step)
desk_steps [] = []
desk_steps (d ∷ ds) = own_steps d.id d.entries ++ desk_steps ds

abbrev node_step : ℕ → NodeEntry → ℕ × Step
node_step i e = (e.number, AtNode i e.act)

abbrev cell_steps : List CellView → List (ℕ × Step)
cell_steps [] = []
cell_steps (c ∷ cs) = map (node_step c.charter.number) c.journal ++ cell_steps cs

-- how often a number stands
abbrev count : ℕ → List (ℕ × Step) → ℕ
count x ps = count_by (λ p. p.0 == x) ps

count-append : (x : ℕ) (ps qs : List (ℕ × Step)) → count x (ps ++ qs) ≡ count x ps + count x qs
count-append x ps qs = sum_by-append (λ (p : ℕ × Step). cond (p.0 == x) 1 0) ps qs

count-cons : (x : ℕ) (p : ℕ × Step) (ps : List (ℕ × Step)) → count x (p ∷ ps) ≡ cond (p.0 == x) 1 0 + count x ps
count-cons x p ps = sum_by-cons (λ (q : ℕ × Step). cond (q.0 == x) 1 0) p ps

times-cons : (x n : ℕ) (ns : List ℕ) → times x (n ∷ ns) ≡ cond (n == x) 1 0 + times x ns
times-cons x n ns = sum_by-cons (λ (m : ℕ). cond (m == x) 1 0) n ns

times-append : (x : ℕ) (ns ms : List ℕ) → times x (ns ++ ms) ≡ times x ns + times x ms
times-append x ns ms = sum_by-append (λ (m : ℕ). cond (m == x) 1 0) ns ms

drawn-append : (x : ℕ) (ss ts : List Share) → times_drawn x (ss ++ ts) ≡ times_drawn x ss + times_drawn x ts
drawn-append x ss ts = sum_by-append (λ (s : Share). times x s.drawn) ss ts

drawn-cons : (x : ℕ) (s : Share) (ss : List Share) → times_drawn x (s ∷ ss) ≡ times x s.drawn + times_drawn x ss
drawn-cons x s ss = sum_by-cons (λ (t : Share). times x t.drawn) s ss

node_count : (x i : ℕ) (es : List NodeEntry) → count x (map (node_step i) es) ≡ times x (numbers es)
node_count x i [] = refl
node_count x i (e ∷ es) =
    count-cons x (node_step i e) (map (node_step i) es) ∙ ap (λ (k : ℕ). cond (e.number == x) 1 0 + k) (node_count x i es) ∙ sym (times-cons x e.number (numbers es))

cells_count : (x : ℕ) (cells : List CellView) → All KeptCell cells → count x (cell_steps cells) ≡ times_drawn x (map (λ c. share_of c.pass) cells)
cells_count x [] k = refl
cells_count x (c ∷ cs) k =
    let kept = All-head KeptCell c cs k in
    count-append x (map (node_step c.charter.number) c.journal) (cell_steps cs)
    ∙ ap (λ (n : ℕ). n + count x (cell_steps cs)) (node_count x c.charter.number c.journal ∙ ap (times x) (sym kept.drawn))
    ∙ ap (λ (n : ℕ). times x c.pass.drawn + n) (cells_count x cs (All-tail KeptCell c cs k))
    ∙ sym (drawn-cons x (share_of c.pass) (map (λ c. share_of c.pass) cs))

own_count : (x c : ℕ) (es : List DeskEntry) → count x (own_steps c es) ≡ times x (own_numbers es)
own_count x c [] = refl
own_count x c (e ∷ es) =
    count-append x (own_step c e.number e.act) (own_steps c es) ∙ ap (λ (n : ℕ). n + count x (own_steps c es)) (head e.number e.act)
    ∙ ap (λ (n : ℕ). times x (own_of e.number e.act) + n) (own_count x c es) ∙ sym (times-append x (own_of e.number e.act) (own_numbers es))
  where
    head : (n : ℕ) (a : DeskAct) → count x (own_step c n a) ≡ times x (own_of n a)
    head n (Start op) = refl
    head n Crash = refl
    head n (Call way ask reply) = refl

desks_count : (x : ℕ) (desks : List DeskView) → All KeptDesk desks → count x (desk_steps desks) ≡ times_drawn x (map (λ d. share_of d.pass) desks)
desks_count x [] k = refl
desks_count x (d ∷ ds) k =
    let kept = All-head KeptDesk d ds k in
    count-append x (own_steps d.id d.entries) (desk_steps ds)
    ∙ ap (λ (n : ℕ). n + count x (desk_steps ds)) (own_count x d.id d.entries ∙ ap (times x) (sym kept.drawn))
    ∙ ap (λ (n : ℕ). times x d.pass.drawn + n) (desks_count x ds (All-tail KeptDesk d ds k))
    ∙ sym (drawn-cons x (share_of d.pass) (map (λ d. share_of d.pass) ds))

-- what stands is counted, and what is counted stands
counted : (x : ℕ) (ps : List (ℕ × Step)) (e : Step) → Contains ps (x, e) → 0 < count x ps
counted x [] e there = absurd (Contains-none (x, e) there)
counted x (p ∷ ps) e there =
    let c = count-cons x p ps in
    elim (Contains-cons_cases (x, e) p ps there) [
      | inl same ↦ (
          let n : x ≡ p.0 = ap (λ (q : ℕ × Step). q.0) same in
          let b : (p.0 == x) ≡ true = grind (arith, nat_tests) in
          let one : ◌≡◌ {A = ℕ} (cond (p.0 == x) 1 0) 1 = ap (λ (t : Bool). cond t 1 0) b in
          omega (arith, c, one)
          )
      | inr rest ↦ (let l = counted x ps e rest in omega (arith, c, l))
    ]

stands : (x : ℕ) (ps : List (ℕ × Step)) → 0 < count x ps → (e : Step) × Contains ps (x, e)
stands x [] l = (let none : count x [] ≡ 0 = refl in absurd (omega (arith, l, none)))
stands x (p ∷ ps) l = elim (eqb_tells p.0 x) [
  | inl same ↦ (p.1, subst (λ (n : ℕ). Contains (p ∷ ps) (n, p.1)) same.1 (Contains-head p ps))
  | inr other ↦ (
      let c = count-cons x p ps in
      let none : ◌≡◌ {A = ℕ} (cond (p.0 == x) 1 0) 0 = ap (λ (t : Bool). cond t 1 0) other.0 in
      let q = stands x ps (omega (arith, c, none, l)) in
      (q.0, Contains-rest (x, q.0) p ps q.1)
      )
]

-- what is counted once is one
only : (x : ℕ) (ps : List (ℕ × Step)) (e f : Step) → count x ps ≤ 1 → Contains ps (x, e) → Contains ps (x, f) → e ≡ f
only x [] e f l h k = absurd (Contains-none (x, e) h)
only x (p ∷ ps) e f l h k = elim (eqb_tells p.0 x) [
  | inl same ↦ (
      let none : count x ps ≤ 0 = (let c = count-cons x p ps in let one : ◌≡◌ {A = ℕ} (cond (p.0 == x) 1 0) 1 = ap (λ (t : Bool). cond t 1 0) same.0 in omega (arith, c, one, l)) in
      is_head e none h ∙ sym (is_head f none k)
      )
  | inr other ↦ (let m : count x ps ≤ 1 = (let c = count-cons x p ps in omega (arith, c, l)) in only x ps e f m (in_rest e other.1 h) (in_rest f other.1 k))
]
  where
    is_head : (e : Step) → count x ps ≤ 0 → Contains (p ∷ ps) (x, e) → e ≡ p.1
    is_head e none h = elim (Contains-cons_cases (x, e) p ps h) [
      | inl same ↦ ap (λ (q : ℕ × Step). q.1) same
      | inr rest ↦ (let c = counted x ps e rest in absurd (omega (arith, c, none)))
    ]

    in_rest : (e : Step) → (p.0 ≡ x → ⊥) → Contains (p ∷ ps) (x, e) → Contains ps (x, e)
    in_rest e other h = elim (Contains-cons_cases (x, e) p ps h) [
      | inl same ↦ absurd (other (sym (ap (λ (q : ℕ × Step). q.0) same)))
      | inr rest ↦ rest
    ]

-- ---- steps are the entries of the journals

-- an entry of a cell is a step of its node
in_cells : (cells : List CellView) (cell : CellView) (e : NodeEntry) → Contains cells cell → Contains cell.journal e → Contains (cell_steps cells) (e.number, AtNode cell.charter.number e.act)
in_cells [] cell e there at = absurd (Contains-none cell there)
in_cells (c ∷ cs) cell e there at = elim (Contains-cons_cases cell c cs there) [
  | inl same ↦ Contains-append_left (map (node_step c.charter.number) c.journal) (cell_steps cs) (e.number, AtNode cell.charter.number e.act)
      (subst (λ (x : CellView). Contains (map (node_step x.charter.number) x.journal) (e.number, AtNode cell.charter.number e.act)) same (Contains-map (node_step cell.charter.number) cell.journal e at))
  | inr rest ↦ Contains-append_right (map (node_step c.charter.number) c.journal) (cell_steps cs) (e.number, AtNode cell.charter.number e.act) (in_cells cs cell e rest at)
]

-- a step of a node is an entry of one of its cells
record FromCell (cells : List CellView) (n : ℕ) (s : Step) : Type 0 where
  cell : CellView
  among : Contains cells cell
  act : NodeAct
  is : s ≡ AtNode cell.charter.number act
  there : Contains cell.journal (record { number = n; act = act })

of_cells : (cells : List CellView) (n : ℕ) (s : Step) → Contains (cell_steps cells) (n, s) → FromCell cells n s
of_cells [] n s there = absurd (Contains-none _ there)
of_cells (c ∷ cs) n s there = elim (Contains-append_cases (map (node_step c.charter.number) c.journal) (cell_steps cs) (n, s) there) [
  | inl here ↦ (
      let q = Contains-map_cases (node_step c.charter.number) c.journal (n, s) here in
      let e : n ≡ q.0.number = ap (λ (p : ℕ × Step). p.0) q.2 in
      record {
        cell = c;
        among = Contains-head c cs;
        act = q.0.act;
        is = ap (λ (p : ℕ × Step). p.1) q.2;
        there = subst (λ (m : ℕ). Contains c.journal (record { number = m; act = q.0.act })) (sym e) q.1;
      }
      )
  | inr later ↦ (let q = of_cells cs n s later in record { cell = q.cell; among = Contains-rest q.cell c cs q.among; act = q.act; is = q.is; there = q.there })
]

-- cells whose numbers stand once each are apart
apart_once : (i : ℕ) (cells : List CellView) → ((x : ℕ) → count x (cell_steps cells) ≤ 1) → AreApart i cells
apart_once i [] once = tt
apart_once i (c ∷ cs) once = (
  (λ x y is mine other same.
      let n = x.number in
      let all = count-append n (map (node_step c.charter.number) c.journal) (cell_steps cs) in
      let a = counted n (map (node_step c.charter.number) c.journal) (AtNode c.charter.number x.act) (Contains-map (node_step c.charter.number) c.journal x mine) in
      let b = counted n (cell_steps cs) (AtNode other.cell.charter.number y.act) (subst (λ (k : ℕ). Contains (cell_steps cs) (k, AtNode other.cell.charter.number y.act)) (sym same) (in_cells cs other.cell y other.there other.stands)) in
      let most = once n in
      omega (arith, all, a, b, most)),
  apart_once i cs (λ x. (let all = count-append x (map (node_step c.charter.number) c.journal) (cell_steps cs) in let most = once x in omega (arith, all, most))),
)

in_own : (c : ℕ) (es : List DeskEntry) (e : DeskEntry) → Contains es e → IsOwn e.act → Contains (own_steps c es) (e.number, AtDesk c e.act)
in_own c [] e there own = absurd (Contains-none e there)
in_own c (x ∷ es) e there own = elim (Contains-cons_cases e x es there) [
  | inl same ↦ Contains-append_left (own_step c x.number x.act) (own_steps c es) (e.number, AtDesk c e.act)
      (subst (λ (y : DeskEntry). Contains (own_step c y.number y.act) (e.number, AtDesk c e.act)) same (head e.number e.act own))
  | inr rest ↦ Contains-append_right (own_step c x.number x.act) (own_steps c es) (e.number, AtDesk c e.act) (in_own c es e rest own)
]
  where
    head : (n : ℕ) (a : DeskAct) → IsOwn a → Contains (own_step c n a) (n, AtDesk c a)
    head n (Start op) own = Contains-head (n, AtDesk c (Start op)) []
    head n Crash own = Contains-head (n, AtDesk c Crash) []
    head n (Call way ask reply) own = absurd own

-- a step of a desk is a start or crash on it
record FromOwn (c : ℕ) (es : List DeskEntry) (n : ℕ) (s : Step) : Type 0 where
  act : DeskAct
  is : s ≡ AtDesk c act
  own : IsOwn act
  there : Contains es (record { number = n; act = act })

of_own : (c : ℕ) (es : List DeskEntry) (n : ℕ) (s : Step) → Contains (own_steps c es) (n, s) → FromOwn c es n s
of_own c [] n s there = absurd (Contains-none _ there)
of_own c (x ∷ es) n s there = elim (Contains-append_cases (own_step c x.number x.act) (own_steps c es) (n, s) there) [
  | inl here ↦ head x.act refl (subst (λ (a : DeskAct). Contains (own_step c x.number a) (n, s)) refl here)
  | inr rest ↦ (let q = of_own c es n s rest in record { act = q.act; is = q.is; own = q.own; there = Contains-rest _ x es q.there })
]
  where
    one : (a : DeskAct) → x.act ≡ a → IsOwn a → ◌≡◌ {A = ℕ × Step} (n, s) (x.number, AtDesk c a) → FromOwn c (x ∷ es) n s
    one a e own same =
        let m : n ≡ x.number = ap (λ (p : ℕ × Step). p.0) same in
        let f : s ≡ AtDesk c a = ap (λ (p : ℕ × Step). p.1) same in
        record { act = a; is = f; own = own; there = subst (λ (k : ℕ). Contains (x ∷ es) (record { number = k; act = a })) (sym m) (subst (λ (b : DeskAct). Contains (x ∷ es) (record { number = x.number; act = b })) e (Contains-head x es)) }

    head : (a : DeskAct) → x.act ≡ a → Contains (own_step c x.number a) (n, s) → FromOwn c (x ∷ es) n s
    head (Start op) e here = elim (Contains-cons_cases (n, s) (x.number, AtDesk c (Start op)) [] here) [ inl same ↦ one (Start op) e tt same | inr none ↦ absurd (Contains-none _ none) ]
    head Crash e here = elim (Contains-cons_cases (n, s) (x.number, AtDesk c Crash) [] here) [ inl same ↦ one Crash e tt same | inr none ↦ absurd (Contains-none _ none) ]
    head (Call way ask reply) e here = absurd (Contains-none _ here)

in_desks : (desks : List DeskView) (d : DeskView) (e : DeskEntry) → Contains desks d → Contains d.entries e → IsOwn e.act → Contains (desk_steps desks) (e.number, AtDesk d.id e.act)
in_desks [] d e there at own = absurd (Contains-none d there)
in_desks (x ∷ ds) d e there at own = elim (Contains-cons_cases d x ds there) [
  | inl same ↦ Contains-append_left (own_steps x.id x.entries) (desk_steps ds) (e.number, AtDesk d.id e.act)
      (subst (λ (y : DeskView). Contains (own_steps y.id y.entries) (e.number, AtDesk d.id e.act)) same (in_own d.id d.entries e at own))
  | inr rest ↦ Contains-append_right (own_steps x.id x.entries) (desk_steps ds) (e.number, AtDesk d.id e.act) (in_desks ds d e rest at own)
]

record FromDesk (desks : List DeskView) (n : ℕ) (s : Step) : Type 0 where
  desk : DeskView
  among : Contains desks desk
  step : FromOwn desk.id desk.entries n s

of_desks : (desks : List DeskView) (n : ℕ) (s : Step) → Contains (desk_steps desks) (n, s) → FromDesk desks n s
of_desks [] n s there = absurd (Contains-none _ there)
of_desks (d ∷ ds) n s there = elim (Contains-append_cases (own_steps d.id d.entries) (desk_steps ds) (n, s) there) [
  | inl here ↦ record { desk = d; among = Contains-head d ds; step = of_own d.id d.entries n s here }
  | inr rest ↦ (let q = of_desks ds n s rest in record { desk = q.desk; among = Contains-rest q.desk d ds q.among; step = q.step })
]

-- ---- desks by their clients

-- who stands further on has a greater number
above : (d : DeskView) (ds : List DeskView) → AllByRecursion (λ k. d.id < k) (map (λ d. d.id) ds) → (e : DeskView) → Contains ds e → d.id < e.id
above d [] a e there = absurd (Contains-none e there)
above d (x ∷ ds) a e there = elim (Contains-cons_cases e x ds there) [
  | inl same ↦ (let l = a.0 in let q : e.id ≡ x.id = ap (λ (y : DeskView). y.id) same in omega (arith, l, q))
  | inr rest ↦ above d ds a.1 e rest
]

-- the entries of a client are those of its desk
pub entries_are : (desks : List DeskView) → Ascend (map (λ d. d.id) desks) → (d : DeskView) → Contains desks d → entries_at desks d.id ≡ d.entries
entries_are [] a d there = absurd (Contains-none d there)
entries_are (x ∷ ds) a d there = elim (Contains-cons_cases d x ds there) [
  | inl same ↦ (let b : (x.id == d.id) ≡ true = (let q : d.id ≡ x.id = ap (λ (y : DeskView). y.id) same in grind (arith, nat_tests)) in let e : entries_at (x ∷ ds) d.id ≡ x.entries = rw b refl in e ∙ ap (λ (y : DeskView). y.entries) (sym same))
  | inr rest ↦ (let l = above x ds a.0 d rest in let b : (x.id == d.id) ≡ false = grind (arith, nat_tests) in let e : entries_at (x ∷ ds) d.id ≡ entries_at ds d.id = rw b refl in e ∙ entries_are ds a.1 d rest)
]

-- ---- the journals

module _ (plan : Plan) (clock : ClockId) (cells : List CellView) (desks : List DeskView) (drawn : ℕ) (phases : List Phase) (prunes : ℕ → List Pruning)
    (h : HasEnded plan clock cells desks drawn phases prunes) where
  abbrev j : Journals
  j = journals_of plan cells desks

  node_is : (i : ℕ) → journal_of plan.config cells i ≡ node_journal cells i
  node_is i = journal_is plan.config cells h.cells.inside i

  abbrev all_steps : List (ℕ × Step)
  all_steps = cell_steps cells ++ desk_steps desks

  counts : (x : ℕ) → count x all_steps ≡ once_below drawn x
  counts x =
      count-append x (cell_steps cells) (desk_steps desks)
      ∙ ap (λ (n : ℕ). n + count x (desk_steps desks)) (cells_count x cells h.kept.cells)
      ∙ ap (λ (n : ℕ). times_drawn x (map (λ c. share_of c.pass) cells) + n) (desks_count x desks h.kept.desks)
      ∙ sym (drawn-append x (map (λ c. share_of c.pass) cells) (map (λ d. share_of d.pass) desks)) ∙ h.numbers x

  entry_step : (n : ℕ) (s : Step) → IsEntry j n s → Contains all_steps (n, s)
  entry_step n (AtNode i act) there =
      let e : NodeEntry = record { number = n; act = act } in
      let q = journal_cases cells i e (subst (λ (l : List NodeEntry). Contains l e) (node_is i) there) in
      Contains-append_left (cell_steps cells) (desk_steps desks) (n, AtNode i act) (subst (λ (k : ℕ). Contains (cell_steps cells) (n, AtNode k act)) q.number (in_cells cells q.cell e q.there q.stands))
  entry_step n (AtDesk c act) there = elim (desk_at desks c).is [
    | inl q ↦ (
        let e : DeskEntry = record { number = n; act = act } in
        let m = in_desks desks q.0 e q.1 (subst (λ (es : List DeskEntry). Contains es e) q.3 there.1) there.0 in
        Contains-append_right (cell_steps cells) (desk_steps desks) (n, AtDesk c act) (subst (λ (k : ℕ). Contains (desk_steps desks) (n, AtDesk k act)) q.2 m)
        )
    | inr none ↦ absurd (Contains-none _ (subst (λ (es : List DeskEntry). Contains es (record { number = n; act = act })) none.0 there.1))
  ]

  step_entry : (n : ℕ) (s : Step) → Contains all_steps (n, s) → IsEntry j n s
  step_entry n s there = elim (Contains-append_cases (cell_steps cells) (desk_steps desks) (n, s) there) [
    | inl at ↦ (
        let q = of_cells cells n s at in
        let i = q.cell.charter.number in
        let there = subst (λ (l : List NodeEntry). Contains l (record { number = n; act = q.act })) (sym (node_is i)) (journal_has cells q.cell (record { number = n; act = q.act }) q.among q.there) in
        subst (λ (t : Step). IsEntry j n t) (sym q.is) there
        )
    | inr at ↦ (
        let q = of_desks desks n s at in
        let e = entries_are desks h.clients.ascend q.desk q.among in
        subst (λ (t : Step). IsEntry j n t) (sym q.step.is) (q.step.own, subst (λ (es : List DeskEntry). Contains es (record { number = n; act = q.step.act })) (sym e) q.step.there)
        )
  ]

  at_most : (n : ℕ) → once_below drawn n ≤ 1
  at_most n = at (nat_lt n drawn)
    where
      at : (b : Bool) → cond b 1 0 ≤ 1
      at true = omega arith
      at false = omega arith

  numbers_below : NumbersBelow j drawn
  numbers_below = record { some = some; below = below; once = once }
    where
      one_at : (n : ℕ) → n < drawn → once_below drawn n ≡ 1
      one_at n l = (let b : nat_lt n drawn ≡ true = grind (arith, nat_tests) in rw b refl)

      some : (n : ℕ) → n < drawn → (s : Step) × IsEntry j n s
      some n l =
          let c = counts n in
          let o = one_at n l in
          let q = stands n all_steps (omega (arith, c, o)) in
          (q.0, step_entry n q.0 q.1)

      below : (n : ℕ) (s : Step) → IsEntry j n s → n < drawn
      below n s there = at (nat_lt n drawn) refl
        where
          at : (b : Bool) → nat_lt n drawn ≡ b → n < drawn
          at true e = grind (arith, nat_tests)
          at false e =
              let c = counts n in
              let none : once_below drawn n ≡ 0 = rw e refl in
              let l = counted n all_steps s (entry_step n s there) in
              absurd (omega (arith, c, none, l))

      once : (n : ℕ) (e f : Step) → IsEntry j n e → IsEntry j n f → e ≡ f
      once n e f a b = (let c = counts n in let m = at_most n in only n all_steps e f (omega (arith, c, m)) (entry_step n e a) (entry_step n f b))

  -- ---- pairs

  pairs_agree : PairsAgree j
  pairs_agree = record { called = called; answered = answered }
    where
      called : (i c : ℕ) (e : NodeEntry) (act : DeskAct) → Contains (journal_of plan.config cells i) e → side e.act ≡ Some (c, act) → Contains (entries_at desks c) (record { number = e.number; act = act })
      called i c e act there is =
          let q = journal_cases cells i e (subst (λ (l : List NodeEntry). Contains l e) (node_is i) there) in
          let on = h.pairs.called q.cell e c act q.there q.stands is in
          let at = subst (λ (es : List DeskEntry). Contains es (desk_entry e.number act)) (sym (entries_are desks h.clients.ascend on.desk on.there)) on.stands in
          subst (λ (k : ℕ). Contains (entries_at desks k) (desk_entry e.number act)) on.client at

      found : (c : ℕ) (e : DeskEntry) → HasSideIn cells c e → HasSide j c e
      found c e q =
          let k = q.cell.charter.number in
          let at : Contains (journal_of plan.config cells k) q.of = subst (λ (es : List NodeEntry). Contains es q.of) (sym (node_is k)) (journal_has cells q.cell q.of q.there q.stands) in
          (k, q.of.act, subst (λ (n : ℕ). Contains (journal_of plan.config cells k) (record { number = n; act = q.of.act })) q.number at, q.agree)

      answered : (c : ℕ) (e : DeskEntry) → Contains (entries_at desks c) e → IsOwn e.act ⊎ HasSide j c e
      answered c e there = elim (desk_at desks c).is [
        | inl q ↦ elim (h.pairs.answered q.0 e q.1 (subst (λ (es : List DeskEntry). Contains es e) q.3 there)) [
          | inl own ↦ inl own
          | inr side ↦ inr (found c e (subst (λ (k : ℕ). HasSideIn cells k e) q.2 side))
        ]
        | inr none ↦ absurd (Contains-none e (subst (λ (es : List DeskEntry). Contains es e) none.0 there))
      ]

  -- ---- kept

  node_kept : OneCell → SeveralCells → (i : ℕ) → IsNodeKept (conduct_of plan.rules) j i
  node_kept one several i = elim (below_tells i plan.config.n) [
    | inl within ↦ (
        let once : (x : ℕ) → count x (cell_steps cells) ≤ 1 = λ x. (let all = counts x in let parts = count-append x (cell_steps cells) (desk_steps desks) in let most = at_most x in omega (arith, all, parts, most)) in
        let ups : All (λ c. Ascend (numbers c.journal)) cells = λ k d lt. (one _ (h.kept.cells k d lt)).ascends in
        let up = journal_ascends cells i ups (apart_once i cells once) in
        let k = node_is_kept plan clock cells h.cells h.kept.cells i within.1 up one several in
        record {
          ascends = subst (λ (es : List NodeEntry). Ascend (map (λ e. e.number) es)) (sym (node_is i)) k.ascends;
          goes = subst (NodeKept (nature plan.rules i) (new_state plan.config i (crash_after plan.rules i))) (sym (node_is i)) k.goes;
        }
        )
    | inr past ↦ (
        let none = past_range (node_journal cells) 0 plan.config.n i past.1 in
        record { ascends = subst (λ (es : List NodeEntry). Ascend (map (λ e. e.number) es)) (sym none) tt; goes = subst (NodeKept (nature plan.rules i) (new_state plan.config i (crash_after plan.rules i))) (sym none) tt }
        )
  ]

  desk_kept : (c : ℕ) → IsDeskKept j c
  desk_kept c = elim (desk_at desks c).is [
    | inl q ↦ (
        let k = All-contains KeptDesk desks q.0 h.kept.desks q.1 in
        let cluster = All-contains (λ d. d.config ≡ plan.config) desks q.0 h.clients.cluster q.1 in
        let honesty = All-contains (λ d. d.lying ≡ has_number plan.liars.clients d.id) desks q.0 h.clients.honesty q.1 in
        let goes1 = subst (λ (n : Numbers). DeskKept q.0.lying (new_desk n q.0.id) q.0.entries) cluster k.kept in
        let goes2 = subst (λ (b : Bool). DeskKept b (new_desk plan.config q.0.id) q.0.entries) honesty goes1 in
        let goes3 = subst (λ (m : ℕ). DeskKept (has_number plan.liars.clients m) (new_desk plan.config m) q.0.entries) q.2 goes2 in
        record {
          ascends = subst (λ (es : List DeskEntry). Ascend (map (λ e. e.number) es)) (sym q.3) (rises_ascend 0 (numbers_of q.0.entries) q.0.pass.seen k.rises);
          goes = subst (DeskKept (has_number plan.liars.clients c) (new_desk plan.config c)) (sym q.3) goes3;
        }
        )
    | inr none ↦ record { ascends = subst (λ (es : List DeskEntry). Ascend (map (λ e. e.number) es)) (sym none.0) tt; goes = subst (DeskKept (has_number plan.liars.clients c) (new_desk plan.config c)) (sym none.0) tt }
  ]

  journals_long : length j.nodes ≡ plan.config.n
  journals_long = length-map-range_with_len (node_journal cells) 0 plan.config.n

  are_for : AreFor plan j
  are_for = record {
    config = refl;
    liars = refl;
    ascend = subst Ascend (sym (ids desks)) h.clients.ascend;
    named = λ d there. (let q = Contains-map_cases journal_at desks d there in let e : d.client ≡ q.0.id = ap (λ (x : DeskJournal). x.client) q.2 in subst (λ (k : ℕ). Contains (clients plan.rules plan.work) k) (sym e) (All-contains (λ d. Contains (clients plan.rules plan.work) d.id) desks q.0 h.clients.named q.1));
  }
    where
      ids : (ds : List DeskView) → map (λ d. d.client) (map journal_at ds) ≡ map (λ d. d.id) ds
      ids [] = refl
      ids (d ∷ ds) = ap (λ (l : List ℕ). d.id ∷ l) (ids ds)

pub runs_end : OneCell → SeveralCells → OfPlans HasConduct → Ends → RunsEnd
runs_end one several conduct ends plan clock cells desks drawn phases prunes fits h = record {
  fits = fits;
  kept = record {
    behave = conduct plan fits;
    count = journals_long plan clock cells desks drawn phases prunes h;
    nodes = node_kept plan clock cells desks drawn phases prunes h one several;
    desks = desk_kept plan clock cells desks drawn phases prunes h;
  };
  pairs = pairs_agree plan clock cells desks drawn phases prunes h;
  numbers = numbers_below plan clock cells desks drawn phases prunes h;
  follows = ends plan (journals_of plan cells desks) phases prunes (are_for plan clock cells desks drawn phases prunes h) h.closed h.count h.done;
}
