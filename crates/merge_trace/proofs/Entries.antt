-- The entries of journals are the steps listed.
use Rattle.std.proofs.Common.{◌≡◌, ◌⊎◌, ℕ, zero, suc, ◌+◌, ◌<◌, ◌≤◌, eqb, true, false, List, [], ◌∷◌, map, length, refl, sym, ap, subst, ◌∙◌, inl, inr, arith}
use Rattle.std.specs.Prelude.{slice_index_or}
use Rattle.std.specs.List.{Contains, AllByRecursion}
use Rattle.std.specs.Ordering.{nat_cmp}
use Rattle.std.specs.BTreeSet.{BTreeSet, contains}
use Rattle.std.proofs.lemmas.Bool.Decides.{eqb_tells, nat_tests}
use Rattle.std.proofs.lemmas.List.Elements.{Contains-append_cases, Contains-append_left, Contains-append_right}
use Rattle.protocol.specs.Lines.{FitsLine}
use Rattle.protocol.specs.Report.{Ascend}
use Rattle.journals.specs.declared.desk.DeskJournal.{DeskJournal}
use Rattle.journals.specs.declared.desk.DeskAct.TheVariants.{Start, Crash, Call}
use Rattle.journals.specs.declared.whole.Journals.{Journals}
use Rattle.journals.specs.declared.node.NodeEntry.{NodeEntry}
use Rattle.journals.specs.declared.desk.DeskAct.{DeskAct}
use Rattle.journals.specs.declared.desk.DeskEntry.{DeskEntry}
use Rattle.journals.specs.Steps.{Step, IsOwn}
use Rattle.journals.specs.Steps.Step.{AtNode, AtDesk}
use Rattle.journals.specs.Merging.{line_of}
use Rattle.journals.specs.Journals.{setting_for, entries_of, IsEntry}
use Rattle.merge_trace.specs.RunSteps.{IsOnce, AllFitting}
use Rattle.merge_trace.specs.Numbered.{node_steps, all_node_steps, own_step, desk_steps, all_desk_steps, all_steps, numbers_of, AreApart, AreNew, AreAdded, CanMerge}
use Rattle.merge_trace.proofs.Adding.{Numbered, same_place, new_both, new_first, new_rest}
use Rattle.lists.proofs.lemmas.Members.{Contains-head, Contains-none, Contains-rest, Contains-cons_cases, Contains-one, Contains-map_cases, Contains-map}

-- ---- each entry is listed

in_node : (i : ℕ) (es : List NodeEntry) (x : NodeEntry) → Contains es x → Contains (node_steps i es) (x.number, AtNode i x.act)
in_node i es x there = Contains-map (λ (e : NodeEntry). (e.number, AtNode i e.act)) es x there

in_nodes : (from at i : ℕ) (nodes : List (List NodeEntry)) (x : NodeEntry) → at ≡ from + i → Contains (slice_index_or nodes i []) x → Contains (all_node_steps from nodes) (x.number, AtNode at x.act)
in_nodes from at i [] x e there = absurd (Contains-none x there)
in_nodes from at zero (es ∷ nodes) x e there = let q : from ≡ at = omega (arith, e) in Contains-append_left (node_steps from es) (all_node_steps (from + 1) nodes) (x.number, AtNode at x.act) (subst (λ (k : ℕ). Contains (node_steps from es) (x.number, AtNode k x.act)) q (in_node from es x there))
in_nodes from at (suc i) (es ∷ nodes) x e there = Contains-append_right (node_steps from es) (all_node_steps (from + 1) nodes) (x.number, AtNode at x.act) (in_nodes (from + 1) at i nodes x (omega (arith, e)) there)

is_own : (c n : ℕ) (act : DeskAct) → IsOwn act → Contains (own_step c n act) (n, AtDesk c act)
is_own c n (Start op) own = Contains-head (n, AtDesk c (Start op)) []
is_own c n Crash own = Contains-head (n, AtDesk c Crash) []
is_own c n (Call way ask answer) own = absurd own

in_desk : (c : ℕ) (es : List DeskEntry) (x : DeskEntry) → IsOwn x.act → Contains es x → Contains (desk_steps c es) (x.number, AtDesk c x.act)
in_desk c [] x own there = absurd (Contains-none x there)
in_desk c (e ∷ es) x own there =
    let rest = in_desk c es x own in
    elim (Contains-cons_cases x e es there) [
      | inl same ↦ Contains-append_left (own_step c e.number e.act) (desk_steps c es) (x.number, AtDesk c x.act) (subst (λ (z : DeskEntry). Contains (own_step c z.number z.act) (x.number, AtDesk c x.act)) same (is_own c x.number x.act own))
      | inr t ↦ Contains-append_right (own_step c e.number e.act) (desk_steps c es) (x.number, AtDesk c x.act) (rest t)
    ]

in_desks : (ds : List DeskJournal) (c : ℕ) (x : DeskEntry) → IsOwn x.act → Contains (entries_of ds c) x → Contains (all_desk_steps ds) (x.number, AtDesk c x.act)
in_desks [] c x own there = absurd (Contains-none x there)
in_desks (d ∷ ds) c x own there = elim (eqb_tells d.client c) [
  | inl same ↦ (
      let here : Contains d.entries x = rw same.0 at there in
      Contains-append_left (desk_steps d.client d.entries) (all_desk_steps ds) (x.number, AtDesk c x.act) (subst (λ (k : ℕ). Contains (desk_steps d.client d.entries) (x.number, AtDesk k x.act)) same.1 (in_desk d.client d.entries x own here))
      )
  | inr other ↦ (
      let rest : Contains (entries_of ds c) x = rw other.0 at there in
      Contains-append_right (desk_steps d.client d.entries) (all_desk_steps ds) (x.number, AtDesk c x.act) (in_desks ds c x own rest)
      )
]

entry_there : (j : Journals) (n : ℕ) (e : Step) → IsEntry j n e → Contains (all_steps j) (n, e)
entry_there j n (AtNode i act) there = Contains-append_left (all_node_steps 0 j.nodes) (all_desk_steps j.desks) (n, AtNode i act) (in_nodes 0 i i j.nodes (record { number = n; act = act }) (omega arith) there)
entry_there j n (AtDesk c act) there = Contains-append_right (all_node_steps 0 j.nodes) (all_desk_steps j.desks) (n, AtDesk c act) (in_desks j.desks c (record { number = n; act = act }) there.0 there.1)

-- ---- each step listed is an entry

of_nodes : (from : ℕ) (nodes : List (List NodeEntry)) (p : Numbered) → Contains (all_node_steps from nodes) p → (i : ℕ) × (x : NodeEntry) × Contains (slice_index_or nodes i []) x × (p ≡ (x.number, AtNode (from + i) x.act))
of_nodes from [] p h = absurd (Contains-none p h)
of_nodes from (es ∷ nodes) p h = turn (Contains-append_cases (node_steps from es) (all_node_steps (from + 1) nodes) p h) (of_nodes (from + 1) nodes p)
  where
    turn : Contains (node_steps from es) p ⊎ Contains (all_node_steps (from + 1) nodes) p → (Contains (all_node_steps (from + 1) nodes) p → (i : ℕ) × (x : NodeEntry) × Contains (slice_index_or nodes i []) x × (p ≡ (x.number, AtNode (from + 1 + i) x.act)))
        → (i : ℕ) × (x : NodeEntry) × Contains (slice_index_or (es ∷ nodes) i []) x × (p ≡ (x.number, AtNode (from + i) x.act))
    turn (inl t) rest =
        let q = Contains-map_cases (λ (e : NodeEntry). (e.number, AtNode from e.act)) es p t in
        let k : from ≡ from + 0 = omega arith in
        (0, q.0, q.1, q.2 ∙ ap (λ (n : ℕ). (q.0.number, AtNode n q.0.act)) k)
    turn (inr t) rest =
        let q = rest t in
        let k : from + 1 + q.0 ≡ from + suc q.0 = omega arith in
        (suc q.0, q.1, q.2, q.3 ∙ ap (λ (n : ℕ). (q.1.number, AtNode n q.1.act)) k)

of_own : (c n : ℕ) (act : DeskAct) (p : Numbered) → Contains (own_step c n act) p → IsOwn act × (p ≡ (n, AtDesk c act))
of_own c n (Start op) p h = (tt, Contains-one p (n, AtDesk c (Start op)) h)
of_own c n Crash p h = (tt, Contains-one p (n, AtDesk c Crash) h)
of_own c n (Call way ask answer) p h = absurd (Contains-none p h)

of_desk : (c : ℕ) (es : List DeskEntry) (p : Numbered) → Contains (desk_steps c es) p → (x : DeskEntry) × Contains es x × IsOwn x.act × (p ≡ (x.number, AtDesk c x.act))
of_desk c [] p h = absurd (Contains-none p h)
of_desk c (e ∷ es) p h =
    let rest = of_desk c es p in
    elim (Contains-append_cases (own_step c e.number e.act) (desk_steps c es) p h) [
      | inl t ↦ (let q = of_own c e.number e.act p t in (e, Contains-head e es, q.0, q.1))
      | inr t ↦ (let q = rest t in (q.0, Contains-rest q.0 e es q.1, q.2, q.3))
    ]

of_desks : (ds : List DeskJournal) (p : Numbered) → Contains (all_desk_steps ds) p → (d : DeskJournal) × (x : DeskEntry) × Contains ds d × Contains d.entries x × IsOwn x.act × (p ≡ (x.number, AtDesk d.client x.act))
of_desks [] p h = absurd (Contains-none p h)
of_desks (d ∷ ds) p h =
    let rest = of_desks ds p in
    elim (Contains-append_cases (desk_steps d.client d.entries) (all_desk_steps ds) p h) [
      | inl t ↦ (let q = of_desk d.client d.entries p t in (d, q.0, Contains-head d ds, q.1, q.2, q.3))
      | inr t ↦ (let q = rest t in (q.0, q.1, Contains-rest q.0 d ds q.2, q.3, q.4, q.5))
    ]

above : (c : ℕ) (ds : List DeskJournal) → AllByRecursion (λ n. c < n) (map (λ d. d.client) ds) → (d : DeskJournal) → Contains ds d → c < d.client
above c [] h d there = absurd (Contains-none d there)
above c (e ∷ ds) h d there =
    let rest = above c ds h.1 d in
    elim (Contains-cons_cases d e ds there) [ inl same ↦ subst (λ (z : DeskJournal). c < z.client) (sym same) h.0 | inr t ↦ rest t ]

-- the entries of a client are those of its journal, where clients ascend
entries_are : (ds : List DeskJournal) → Ascend (map (λ d. d.client) ds) → (d : DeskJournal) → Contains ds d → (x : DeskEntry) → Contains d.entries x → Contains (entries_of ds d.client) x
entries_are [] up d h x there = absurd (Contains-none d h)
entries_are (e ∷ ds) up d h x there =
    let rest = λ (t : Contains ds d). entries_are ds up.1 d t x there in
    elim (Contains-cons_cases d e ds h) [
      | inl same ↦ (
          let k : eqb e.client d.client ≡ true = equal e.client d.client (ap (λ (z : DeskJournal). z.client) (sym same)) in
          rw k (subst (λ (z : DeskJournal). Contains z.entries x) same there)
          )
      | inr t ↦ (
          let k : eqb e.client d.client ≡ false = apart e.client d.client (above e.client ds up.0 d t) in
          rw k (rest t)
          )
    ]
  where
    equal : (a b : ℕ) → a ≡ b → eqb a b ≡ true
    equal a b e = grind (arith, nat_tests)

    apart : (a b : ℕ) → a < b → eqb a b ≡ false
    apart a b l = grind (arith, nat_tests)

is_entry : (j : Journals) → Ascend (map (λ d. d.client) j.desks) → (p : Numbered) → Contains (all_steps j) p → IsEntry j p.0 p.1
is_entry j up p h = elim (Contains-append_cases (all_node_steps 0 j.nodes) (all_desk_steps j.desks) p h) [
  | inl t ↦ (
      let q = of_nodes 0 j.nodes p t in
      let k : 0 + q.0 ≡ q.0 = omega arith in
      subst (λ (z : Numbered). IsEntry j z.0 z.1) (sym (q.3 ∙ ap (λ (n : ℕ). (q.1.number, AtNode n q.1.act)) k)) q.2
      )
  | inr t ↦ (
      let q = of_desks j.desks p t in
      subst (λ (z : Numbered). IsEntry j z.0 z.1) (sym q.5) (q.4, entries_are j.desks up q.0 q.2 q.1 q.3)
      )
]

-- ---- the whole

module _ (j : Journals) where
  pub are_once : AreApart (numbers_of (all_steps j)) → IsOnce j
  are_once h n e f one other = ap (λ (p : Numbered). p.1) (same_place (all_steps j) h (n, e) (n, f) (entry_there j n e one) (entry_there j n f other) refl)

  pub are_fitting : ((p : Numbered) → Contains (all_steps j) p → (k : ℕ) → FitsLine (setting_for j) (line_of (setting_for j) k p.1)) → AllFitting j
  are_fitting h n e there k = h (n, e) (entry_there j n e there) k

  pub fitting_listed : Ascend (map (λ d. d.client) j.desks) → AllFitting j → (p : Numbered) → Contains (all_steps j) p → (k : ℕ) → FitsLine (setting_for j) (line_of (setting_for j) k p.1)
  fitting_listed up h p there k = h p.0 p.1 (is_entry j up p there) k

  -- the steps of nodes and then those of clients are new, exactly where the journals can be merged
  pub can : (none mid : BTreeSet ℕ) → length j.nodes ≤ 256 → Ascend (map (λ d. d.client) j.desks) → AreNew (setting_for j) none (all_node_steps 0 j.nodes) → AreAdded none mid (all_node_steps 0 j.nodes) → AreNew (setting_for j) mid (all_desk_steps j.desks) → CanMerge j
  can none mid few up nodes added desks =
      let all = new_both (setting_for j) none mid (all_node_steps 0 j.nodes) (all_desk_steps j.desks) added nodes desks in
      record { nodes = few; desks = up; once = all.apart; fits = are_fitting all.fit }

  all_new : (none : BTreeSet ℕ) → ((n : ℕ) → contains nat_cmp none n ≡ false) → CanMerge j → AreNew (setting_for j) none (all_steps j)
  all_new none empty h = record { new = λ n there. empty n; apart = h.once; fit = fitting_listed h.desks h.fits }

  pub nodes_new : (none : BTreeSet ℕ) → ((n : ℕ) → contains nat_cmp none n ≡ false) → CanMerge j → AreNew (setting_for j) none (all_node_steps 0 j.nodes)
  nodes_new none empty h = new_first (setting_for j) none (all_node_steps 0 j.nodes) (all_desk_steps j.desks) (all_new none empty h)

  pub desks_new : (none mid : BTreeSet ℕ) → ((n : ℕ) → contains nat_cmp none n ≡ false) → AreAdded none mid (all_node_steps 0 j.nodes) → CanMerge j → AreNew (setting_for j) mid (all_desk_steps j.desks)
  desks_new none mid empty added h = new_rest (setting_for j) none mid (all_node_steps 0 j.nodes) (all_desk_steps j.desks) added (all_new none empty h)

pub empty_has : (set : BTreeSet ℕ) → set.keys ≡ [] → (n : ℕ) → contains nat_cmp set n ≡ false
empty_has set e n = rw e refl
