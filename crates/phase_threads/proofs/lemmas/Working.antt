-- What a phase and its prunes did to cells and desks, told of their journals.
use Rattle.std.proofs.Common.{◌≡◌, ◌⊎◌, ℕ, ◌<◌, ◌≤◌, Bool, true, false, cond, List, [], ◌∷◌, ◌++◌, length, map, take, drop, refl, sym, ◌∙◌, ap, subst, inl, inr, arith}
use Rattle.std.specs.Prelude.{◌==◌, nat_lt}
use Rattle.std.specs.List.{Contains, AllZip, All}
use Rattle.std.proofs.lemmas.Bool.Decides.{eqb_tells, nat_tests}
use Rattle.std.proofs.lemmas.List.{take-append-drop}
use Rattle.std.proofs.lemmas.List.Elements.{Contains-append_cases, All-cons, All-head, All-tail, All-contains}
use Rattle.std.proofs.Math.Seq.{drop-append_seam}
use Rattle.wire_forms.specs.Liars.{has_number}
use Rattle.stamp_order.specs.declared.Stamp.{Stamp}
use Rattle.journals.specs.declared.node.NodeAct.TheVariants.{Pruned}
use Rattle.journals.specs.declared.node.NodeEntry.{NodeEntry}
use Rattle.journals.specs.declared.desk.DeskEntry.{DeskEntry}
use Rattle.journals.specs.Acts.{can_prune}
use Rattle.journals.specs.Phases.{Phase}
use Rattle.quorum_rules.specs.Limits.{Numbers}
use Rattle.locked_nodes.specs.Cells.{CellView, KeptCell, IsPrune, numbers}
use Rattle.client_desks.specs.Desks.{DeskView, KeptDesk}
use Rattle.client_desks.specs.Later.{IsLater}
use Rattle.plan_words.specs.declared.plan.Plan.{Plan}
use Rattle.plan_followed.specs.Asked.{nature}
use Rattle.plan_followed.specs.Nodes.{act_of, node_after}
use Rattle.plan_followed.specs.Closed.{NodeGoesOn, DeskGoesOn, next_begin}
use Rattle.phase_threads.specs.Standing.{AreInside, HasWorked, node_journal, PhasesWork, JournalsBelow, CellsPrune}
use Rattle.locked_nodes.proofs.lemmas.Joins.{AreUnder}
use Rattle.phase_threads.proofs.lemmas.Nodes.{GoesOnAs, journal_cases, journal_has, journal_on}
use Rattle.phase_threads.proofs.lemmas.Cells.{journal_of, journal_is, past_range, node_rises, desk_rises, rises_from, entries_at, desk_at}
use Rattle.lists.proofs.lemmas.Members.{Contains-head, Contains-none, Contains-rest, Contains-cons_cases, all_from_members}

-- ---- one cell

-- the entries that a phase added have numbers from what the pass had seen on, and are no prunes
module _ (old new : CellView) (w : HasWorked old new) (k : KeptCell new) where
  abbrev more : List NodeEntry
  more = w.grew.0

  base_is : drop new.charter.base new.journal ≡ more
  base_is =
      let b : new.charter.base ≡ length old.journal = ap (λ c. c.base) w.charter in
      ap (λ (k : ℕ). drop k new.journal) b ∙ ap (drop (length old.journal)) w.grew.1 ∙ drop-append_seam old.journal more

  seen_is : new.charter.pass.seen ≡ old.pass.seen
  seen_is = ap (λ c. c.pass.seen) w.charter

  more_later : (from : ℕ) → from ≤ old.pass.seen → (e : NodeEntry) → Contains more e → from ≤ e.number
  more_later from l e there =
      let r = node_rises new.charter.pass.seen (drop new.charter.base new.journal) new.pass.seen k.since e (subst (λ (es : List NodeEntry). Contains es e) (sym base_is) there) in
      let a = r.0 in
      let b = seen_is in
      omega (arith, a, b, l)

  pub cell_on : (from : ℕ) → from ≤ old.pass.seen → NodeGoesOn from old.journal new.journal
  cell_on from l = record { more = more; grown = w.grew.1; later = more_later from l }

  -- a prune of the new journal stood in the old one
  pub cell_calm : (n block : ℕ) (stamp : Stamp) → Contains new.journal (record { number = n; act = Pruned block stamp }) → Contains old.journal (record { number = n; act = Pruned block stamp })
  cell_calm n block stamp there =
      let e : NodeEntry = record { number = n; act = Pruned block stamp } in
      elim (Contains-append_cases old.journal more e (subst (λ (es : List NodeEntry). Contains es e) w.grew.1 there)) [
        | inl was ↦ was
        | inr came ↦ (
            let none = k.calm (ap (λ c. c.prunes) w.charter) in
            absurd (All-contains (λ x. IsPrune x.act → ⊥) (drop new.charter.base new.journal) e none (subst (λ (es : List NodeEntry). Contains es e) (sym base_is) came) tt)
            )
      ]

-- ---- all nodes, by the entries of their cells

-- cells that worked had no entry from this number on
goes_on : (from : ℕ) (all old new : List CellView) → ((x : CellView) → Contains old x → Contains all x) → ((x : CellView) → Contains all x → AreUnder from x.journal) → AllZip HasWorked old new → All (λ c. from ≤ c.pass.seen) old → All KeptCell new → AllZip (GoesOnAs from) old new
goes_on from all [] [] among under z s k = tt
goes_on from all [] (y ∷ ys) among under z s k = absurd z
goes_on from all (x ∷ xs) [] among under z s k = absurd z
goes_on from all (x ∷ xs) (y ∷ ys) among under z s k = (
  (
      let on = cell_on x y z.0 (All-head KeptCell y ys k) from (All-head (λ c. from ≤ c.pass.seen) x xs s) in
      record {
        number = ap (λ c. c.number) z.0.charter;
        more = on.more;
        grown = on.grown;
        under = under x (among x (Contains-head x xs));
        later = all_from_members (λ e. from ≤ e.number) on.more on.later;
      }
      ),
  goes_on from all xs ys (λ c there. among c (Contains-rest c x xs there)) under z.1 (All-tail (λ c. from ≤ c.pass.seen) x xs s) (All-tail KeptCell y ys k),
)

pub worked_inside : (config : Numbers) (old new : List CellView) → AllZip HasWorked old new → AreInside config old → AreInside config new
worked_inside config [] [] z h = h
worked_inside config [] (y ∷ ys) z h = absurd z
worked_inside config (x ∷ xs) [] z h = absurd z
worked_inside config (x ∷ xs) (y ∷ ys) z h =
    All-cons (λ c. c.charter.number < config.n) y ys (subst (λ (k : ℕ). k < config.n) (ap (λ c. c.number) (sym z.0.charter)) (All-head (λ c. c.charter.number < config.n) x xs h))
    (worked_inside config xs ys z.1 (All-tail (λ c. c.charter.number < config.n) x xs h))

-- the cell that a cell was
was_cell : (old new : List CellView) → AllZip HasWorked old new → All KeptCell new → (y : CellView) → Contains new y → (x : CellView) × Contains old x × HasWorked x y × KeptCell y
was_cell [] [] z k y there = absurd (Contains-none y there)
was_cell [] (b ∷ ys) z k y there = absurd z
was_cell (a ∷ xs) [] z k y there = absurd z
was_cell (a ∷ xs) (b ∷ ys) z k y there = elim (Contains-cons_cases y b ys there) [
  | inl is ↦ (a, Contains-head a xs, subst (HasWorked a) (sym is) z.0, subst KeptCell (sym is) (All-head KeptCell b ys k))
  | inr rest ↦ (let q = was_cell xs ys z.1 (All-tail KeptCell b ys k) y rest in (q.0, Contains-rest q.0 a xs q.1, q.2, q.3))
]

module _ (config : Numbers) (from : ℕ) (old new : List CellView) (z : AllZip HasWorked old new) (inside : AreInside config old) (k : All KeptCell new) where
  nodes_on : All (λ c. from ≤ c.pass.seen) old → ((i : ℕ) (e : NodeEntry) → Contains (journal_of config old i) e → e.number < from) → (i : ℕ) → NodeGoesOn from (journal_of config old i) (journal_of config new i)
  nodes_on s below i =
      let under : (x : CellView) → Contains old x → AreUnder from x.journal = λ x there. all_from_members (λ e. e.number < from) x.journal (λ e at.
      below x.charter.number e (subst (λ (l : List NodeEntry). Contains l e) (sym (journal_is config old inside x.charter.number)) (journal_has old x e there at))) in
      let on = journal_on i from old new (goes_on from old old new (λ x there. there) under z s k) in
      record {
        more = on.more;
        grown = journal_is config new (worked_inside config old new z inside) i ∙ on.grown ∙ ap (λ (l : List NodeEntry). l ++ on.more) (sym (journal_is config old inside i));
        later = on.later;
      }

  nodes_calm : (i n block : ℕ) (stamp : Stamp) → Contains (journal_of config new i) (record { number = n; act = Pruned block stamp }) → Contains (journal_of config old i) (record { number = n; act = Pruned block stamp })
  nodes_calm i n block stamp there =
      let e : NodeEntry = record { number = n; act = Pruned block stamp } in
      let q = journal_cases new i e (subst (λ (l : List NodeEntry). Contains l e) (journal_is config new (worked_inside config old new z inside) i) there) in
      let w = was_cell old new z k q.cell q.there in
      let at = journal_has old w.0 e w.1 (cell_calm w.0 q.cell w.2 w.3 n block stamp q.stands) in
      let is : w.0.charter.number ≡ i = ap (λ c. c.number) (sym w.2.charter) ∙ q.number in
      subst (λ (l : List NodeEntry). Contains l e) (sym (journal_is config old inside i)) (subst (λ (m : ℕ). Contains (node_journal old m) e) is at)

-- ---- all desks, by their clients

desk_on : (from : ℕ) (old new : DeskView) → IsLater old new → from ≤ old.pass.seen → DeskGoesOn from old.entries new.entries
desk_on from old new h l = record {
  more = h.more;
  grown = h.entries;
  later = λ e there. (let r = (desk_rises old.pass.seen h.more new.pass.seen h.rises e there).0 in omega (arith, r, l));
}

desks_on : (from : ℕ) (old new : List DeskView) → AllZip IsLater old new → All (λ d. from ≤ d.pass.seen) old → (c : ℕ) → DeskGoesOn from (entries_at old c) (entries_at new c)
desks_on from [] [] z s c = record { more = []; grown = refl; later = λ e there. absurd (Contains-none e there) }
desks_on from [] (y ∷ ys) z s c = absurd z
desks_on from (x ∷ xs) [] z s c = absurd z
desks_on from (x ∷ xs) (y ∷ ys) z s c = elim (eqb_tells x.id c) [
  | inl same ↦ (
      let e : entries_at (x ∷ xs) c ≡ x.entries = rw same.0 refl in
      let f : entries_at (y ∷ ys) c ≡ y.entries = (let g : (y.id == c) ≡ true = ap (λ (k : ℕ). k == c) z.0.id ∙ same.0 in rw g refl) in
      moved e f (desk_on from x y z.0 (All-head (λ d. from ≤ d.pass.seen) x xs s))
      )
  | inr other ↦ (
      let e : entries_at (x ∷ xs) c ≡ entries_at xs c = rw other.0 refl in
      let f : entries_at (y ∷ ys) c ≡ entries_at ys c = (let g : (y.id == c) ≡ false = ap (λ (k : ℕ). k == c) z.0.id ∙ other.0 in rw g refl) in
      moved e f (desks_on from xs ys z.1 (All-tail (λ d. from ≤ d.pass.seen) x xs s) c)
      )
]
  where
    moved : {a b a' b' : List DeskEntry} → a' ≡ a → b' ≡ b → DeskGoesOn from a b → DeskGoesOn from a' b'
    moved {a} {b} {a'} {b'} e f h = record { more = h.more; grown = f ∙ h.grown ∙ ap (λ (l : List DeskEntry). l ++ h.more) (sym e); later = h.later }

-- liars' desks stay as they were after the first phase
desks_quiet : (plan : Plan) (phases : List Phase) (old new : List DeskView) → AllZip IsLater old new
    → AllZip (λ d e. has_number plan.liars.clients d.id ≡ true → (phases ≡ []) ⊎ (e.entries ≡ d.entries)) old new
    → (c : ℕ) → has_number plan.liars.clients c ≡ true → (phases ≡ []) ⊎ (entries_at new c ≡ entries_at old c)
desks_quiet plan phases [] [] z q c lies = inr refl
desks_quiet plan phases [] (y ∷ ys) z q c lies = absurd z
desks_quiet plan phases (x ∷ xs) [] z q c lies = absurd z
desks_quiet plan phases (x ∷ xs) (y ∷ ys) z q c lies = elim (eqb_tells x.id c) [
  | inl same ↦ (
      let e : entries_at (x ∷ xs) c ≡ x.entries = rw same.0 refl in
      let f : entries_at (y ∷ ys) c ≡ y.entries = (let g : (y.id == c) ≡ true = ap (λ (k : ℕ). k == c) z.0.id ∙ same.0 in rw g refl) in
      elim (q.0 (subst (λ (k : ℕ). has_number plan.liars.clients k ≡ true) (sym same.1) lies)) [ inl none ↦ inl none | inr stays ↦ inr (f ∙ stays ∙ sym e) ]
      )
  | inr other ↦ (
      let e : entries_at (x ∷ xs) c ≡ entries_at xs c = rw other.0 refl in
      let f : entries_at (y ∷ ys) c ≡ entries_at ys c = (let g : (y.id == c) ≡ false = ap (λ (k : ℕ). k == c) z.0.id ∙ other.0 in rw g refl) in
      elim (desks_quiet plan phases xs ys z.1 q.1 c lies) [ inl none ↦ inl none | inr stays ↦ inr (f ∙ stays ∙ sym e) ]
      )
]

pub phases_work : PhasesWork
phases_work plan phases old were new are low inside seen w kept = record {
  later = record {
    config = refl;
    liars = refl;
    nodes = nodes_on plan.config (next_begin phases) old new w.cells inside kept seen.cells low.nodes;
    desks = desks_on (next_begin phases) were are w.desks seen.desks;
  };
  quiet = desks_quiet plan phases were are w.desks w.quiet;
  calm = nodes_calm plan.config (next_begin phases) old new w.cells inside kept;
}

-- ---- bounds

pub cell_below : (cell : CellView) → KeptCell cell → (bound : ℕ) → cell.pass.seen ≤ bound → (e : NodeEntry) → Contains cell.journal e → e.number < bound
cell_below cell k bound l e there =
    let split : cell.journal ≡ take cell.charter.base cell.journal ++ drop cell.charter.base cell.journal = sym (take-append-drop cell.charter.base cell.journal) in
    elim (Contains-append_cases (take cell.charter.base cell.journal) (drop cell.charter.base cell.journal) e (subst (λ (es : List NodeEntry). Contains es e) split there)) [
      | inl first ↦ (
          let a = (node_rises 0 (take cell.charter.base cell.journal) cell.charter.pass.seen k.before e first).1 in
          let b = rises_from cell.charter.pass.seen (numbers (drop cell.charter.base cell.journal)) cell.pass.seen k.since in
          omega (arith, a, b, l)
          )
      | inr then ↦ (let a = (node_rises cell.charter.pass.seen (drop cell.charter.base cell.journal) cell.pass.seen k.since e then).1 in omega (arith, a, l))
    ]

pub journals_below : JournalsBelow
journals_below plan bound cells desks inside seen kept = record { nodes = node; desks = desk }
  where
    node : (i : ℕ) (e : NodeEntry) → Contains (journal_of plan.config cells i) e → e.number < bound
    node i e there =
        let q = journal_cases cells i e (subst (λ (l : List NodeEntry). Contains l e) (journal_is plan.config cells inside i) there) in
        cell_below q.cell (All-contains KeptCell cells q.cell kept.cells q.there) bound (All-contains (λ c. c.pass.seen ≤ bound) cells q.cell seen.cells q.there) e q.stands

    desk : (c : ℕ) (e : DeskEntry) → Contains (entries_at desks c) e → e.number < bound
    desk c e there = elim (desk_at desks c).is [
      | inl q ↦ (
          let k = All-contains KeptDesk desks q.0 kept.desks q.1 in
          let l = All-contains (λ d. d.pass.seen ≤ bound) desks q.0 seen.desks q.1 in
          let r = (desk_rises 0 q.0.entries q.0.pass.seen k.rises e (subst (λ (es : List DeskEntry). Contains es e) q.3 there)).1 in
          omega (arith, r, l)
          )
      | inr none ↦ absurd (Contains-none e (subst (λ (es : List DeskEntry). Contains es e) none.0 there))
    ]

-- ---- prunes

pub cells_prune : CellsPrune
cells_prune plan clock p ps old new desks h k did = record {
  config = refl;
  liars = refl;
  desks = λ c. refl;
  nodes = λ i. node i (nat_lt i plan.config.n) refl;
  acts = λ i l. acts i (nat_lt i plan.config.n) refl l;
}
  where
    was : (i : ℕ) → journal_of plan.config old i ≡ node_journal old i
    was = journal_is plan.config old h.inside

    is : (i : ℕ) → journal_of plan.config new i ≡ node_journal new i
    is = journal_is plan.config new k.inside

    within : (i : ℕ) → nat_lt i plan.config.n ≡ true → i < plan.config.n
    within i e = grind (arith, nat_tests)

    past : (cells : List CellView) (i : ℕ) → nat_lt i plan.config.n ≡ false → journal_of plan.config cells i ≡ []
    past cells i e = (let l : plan.config.n ≤ i = grind (arith, nat_tests) in past_range (node_journal cells) 0 plan.config.n i l)

    node : (i : ℕ) (b : Bool) → nat_lt i plan.config.n ≡ b → NodeGoesOn p.close (journal_of plan.config old i) (journal_of plan.config new i)
    node i true e = (let d = did i (within i e) in record { more = d.more; grown = is i ∙ d.grown ∙ ap (λ (l : List NodeEntry). l ++ d.more) (sym (was i)); later = d.later })
    node i false e = record { more = []; grown = past new i e ∙ ap (λ (l : List NodeEntry). l ++ []) (sym (past old i e)); later = λ x there. absurd (Contains-none x there) }

    acts : (i : ℕ) (b : Bool) (e : nat_lt i plan.config.n ≡ b) → i < plan.config.n → map (λ x. x.act) (node i b e).more ≡ cond (can_prune (node_after plan i (journal_of plan.config old i)) (nature plan.rules i)) (map act_of ps) []
    acts i true e l = (did i (within i e)).acts ∙ ap (λ (es : List NodeEntry). cond (can_prune (node_after plan i es) (nature plan.rules i)) (map act_of ps) []) (sym (was i))
    acts i false e l = absurd (let g : plan.config.n ≤ i = grind (arith, nat_tests) in omega (arith, g, l))
