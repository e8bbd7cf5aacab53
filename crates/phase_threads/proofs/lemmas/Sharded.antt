-- The nodes of a plan's cells: one that stands in one cell is as that cell, and one that stands in several is calm.
use Rattle.std.proofs.Common.{◌≡◌, ◌⊎◌, ℕ, zero, suc, ◌+◌, ◌<◌, ◌%◌, ◌&&◌, Bool, true, false, cond, List, [], ◌∷◌, length, map, refl, sym, ◌∙◌, ap, subst, inl, inr, arith}
use Rattle.std.specs.Prelude.{Option, slice_get, filter, ◌||◌, ◌==◌}
use Rattle.std.specs.declared.option.Option.TheVariants.{None, Some}
use Rattle.std.specs.List.{Contains, All, list_any, filter_map, range_with_len}
use Rattle.std.proofs.Math.Nat.{mod-eq_of_lt}
use Rattle.std.proofs.lemmas.Bool.Decides.{eqb_tells}
use Rattle.std.proofs.lemmas.List.Sums.{sum_by-cons}
use Rattle.std.proofs.lemmas.List.Elements.{All-contains}
use Rattle.std.proofs.lemmas.List.FromFn.{length-map-range_with_len}
use Rattle.quorum_rules.specs.Limits.{Numbers}
use Rattle.protocol.specs.Messages.{Body}
use Rattle.protocol.specs.Report.{Ascend}
use Rattle.wire_forms.specs.declared.message.Body.TheVariants.{Ask as Asks, Answer as Answers}
use Rattle.event_clock.specs.Passes.{ClockId}
use Rattle.journals.specs.declared.node.NodeEntry.{NodeEntry}
use Rattle.journals.specs.declared.node.Nature.{Nature}
use Rattle.journals.specs.declared.node.Nature.TheVariants.{Honest, Lying as Lies}
use Rattle.journals.specs.Acts.{NodeState, Cause, cause_of, can_prune, new_state, after_all, NodeKept}
use Rattle.journals.specs.Acts.Cause.{Comes, ComesLate, Prunes}
use Rattle.locked_nodes.specs.declared.cell_shard.CellShard.{CellShard}
use Rattle.locked_nodes.specs.Cells.{CellView, KeptCell, HasNoLateMail, IsOfShard, ComesTo, IsShare, numbers, state_of}
use Rattle.locked_nodes.specs.CellShards.{cell_shard_of, cell_shards_of}
use Rattle.locked_nodes.specs.Shards.{IsJournal, IsShardOf, AreShards, AreJoined, block_in, block_for, is_of_shard, OneCell, SeveralCells, SeveralCalm}
use Rattle.phase_threads.specs.Standing.{node_journal}
use Rattle.plan_words.specs.declared.fault.Fault.{Fault}
use Rattle.plan_words.specs.declared.fault.Fault.TheVariants.{LiarNode, LiarSound, LiarMix, LiarFlood, CrashNode, CrashClient, Lose, Hold}
use Rattle.plan_words.specs.declared.plan.Plan.{Plan}
use Rattle.plan_followed.specs.Asked.{nature, crash_after, crash_after_by, holds, holds_by}
use Rattle.plan_followed.specs.Nodes.{node_after}
use Rattle.phase_threads.specs.Standing.{IsCellOf, IsPlanned, ArePlanned, needs_whole, is_whole, NodesPrune, NothingLate}
use Rattle.phase_threads.proofs.lemmas.Nodes.{IsIn, IsAlone, journal_cases, journal_alone, fold_filter}
use Rattle.lists.proofs.lemmas.Members.{Contains-head, Contains-none, Contains-rest, place_of, Contains-slice_get}
use Rattle.std.proofs.lemmas.Bool.{or_parts, or_left, or_right}

-- ---- which nodes have one cell

no_crash : (i : ℕ) (rule : Fault) (rest : List ℕ) → needs_whole i rule ≡ false → crash_after_by i rule ≡ None
no_crash i (CrashNode node count) rest e = ap (λ (b : Bool). cond b (Some count) None) e
no_crash i (LiarNode node rule) rest e = refl
no_crash i (LiarSound client block time value count) rest e = refl
no_crash i (LiarMix client block time value other count) rest e = refl
no_crash i (LiarFlood client block time value other count) rest e = refl
no_crash i (CrashClient client count) rest e = refl
no_crash i (Lose client node count) rest e = refl
no_crash i (Hold client node count) rest e = refl

no_crashes : (i : ℕ) (rules : List Fault) → list_any (needs_whole i) rules ≡ false → filter_map (crash_after_by i) rules ≡ []
no_crashes i [] e = refl
no_crashes i (x ∷ rules) e =
    let h = or_parts (needs_whole i x) (list_any (needs_whole i) rules) e in
    let none = no_crash i x [] h.0 in
    rw none (no_crashes i rules h.1)

some_hold : (c i : ℕ) (rule : Fault) → 0 < holds_by c i rule → needs_whole i rule ≡ true
some_hold c i (Hold client node count) l = at (c == client) (i == node) refl l
  where
    at : (a b : Bool) → (i == node) ≡ b → 0 < cond (a && b) count 0 → (i == node) ≡ true
    at true true e l = e
    at true false e l = absurd (omega (arith, l))
    at false b e l = absurd (omega (arith, l))
some_hold c i (LiarNode node rule) l = absurd (omega (arith, l))
some_hold c i (LiarSound client block time value count) l = absurd (omega (arith, l))
some_hold c i (LiarMix client block time value other count) l = absurd (omega (arith, l))
some_hold c i (LiarFlood client block time value other count) l = absurd (omega (arith, l))
some_hold c i (CrashNode node count) l = absurd (omega (arith, l))
some_hold c i (CrashClient client count) l = absurd (omega (arith, l))
some_hold c i (Lose client node count) l = absurd (omega (arith, l))

some_holds : (c i : ℕ) (rules : List Fault) → 0 < holds rules c i → list_any (needs_whole i) rules ≡ true
some_holds c i [] l = absurd (omega (arith, l))
some_holds c i (x ∷ rules) l = at (needs_whole i x) refl (some_holds c i rules)
  where
    at : (b : Bool) → needs_whole i x ≡ b → (0 < holds rules c i → list_any (needs_whole i) rules ≡ true) → (needs_whole i x || list_any (needs_whole i) rules) ≡ true
    at true e next = or_left (needs_whole i x) (list_any (needs_whole i) rules) e
    at false e next =
        let s = sum_by-cons (holds_by c i) x rules in
        let none : (0 < holds_by c i x) → ⊥ = λ k. (let t = some_hold c i x k in cc (t, e)) in
        or_right (needs_whole i x) (list_any (needs_whole i) rules) (next (omega (arith, s, none, l)))

-- a node that is to hold back asks needs to be whole
pub holds_whole : (plan : Plan) (c i : ℕ) → 0 < holds plan.rules c i → is_whole plan i ≡ true
holds_whole plan c i l = some_holds c i plan.rules l

-- a node has one cell, or several and isn't to crash
one_or_several : (plan : Plan) (clock : ClockId) (row : List CellView) (h : ArePlanned plan clock row) (i : ℕ) → (h.shards i ≡ 1) ⊎ ((1 < h.shards i) × (crash_after plan.rules i ≡ None))
one_or_several plan clock row h i = at (is_whole plan i) refl
  where
    at : (b : Bool) → is_whole plan i ≡ b → (h.shards i ≡ 1) ⊎ ((1 < h.shards i) × (crash_after plan.rules i ≡ None))
    at true e = inl (h.whole i e)
    at false e = elim (eqb_tells (h.shards i) 1) [
      | inl same ↦ inl same.1
      | inr other ↦ (let some = h.some i in let ne = other.1 in inr (omega (arith, some, ne), rw (no_crashes i plan.rules e) refl))
    ]

-- ---- the cells of a node

shard_with : (s t : CellShard) → s.node ≡ t.node → s.shard ≡ t.shard → s.shards ≡ t.shards → s ≡ t
shard_with s t a b c = λ i. record { node = a i; shard = b i; shards = c i }

module _ (plan : Plan) (clock : ClockId) (row : List CellView) (h : ArePlanned plan clock row) (kept : All KeptCell row) where
  planned : (cell : CellView) → Contains row cell → IsPlanned plan h.shards cell
  planned cell there = All-contains (IsPlanned plan h.shards) row cell h.each there

  cluster : (cell : CellView) → Contains row cell → cell.charter.config ≡ plan.config
  cluster cell there = (All-contains (IsCellOf plan.config clock) row cell h.cells.each there).cluster

  -- the cell of a node that serves a block
  record IsCellFor (i block : ℕ) : Type 0 where
    place : ℕ
    cell : CellView
    there : slice_get row place ≡ Some cell
    number : cell.charter.number ≡ i
    share : block % cell.charter.shards ≡ cell.charter.shard

  get_map : (cells : List CellView) (k : ℕ) (s : CellShard) → slice_get (cell_shards_of cells) k ≡ Some s → (c : CellView) × (slice_get cells k ≡ Some c) × (cell_shard_of c.charter ≡ s)
  get_map [] k s at = absurd (Contains-none s (Contains-slice_get [] k s at))
  get_map (c ∷ cs) zero s at = (let e : cell_shard_of c.charter ≡ s = cc in (c, refl, e))
  get_map (c ∷ cs) (suc k) s at = get_map cs k s at

  cell_for : (i block : ℕ) → i < plan.config.n → IsCellFor i block
  cell_for i block l =
      let p = h.cells.cover i block l in
      let c = get_map row p.0 p.1.cell_shard p.1.there in
      record {
        place = p.0;
        cell = c.0;
        there = c.1;
        number = ap (λ (s : CellShard). s.node) c.2 ∙ p.1.is.of;
        share = ap (λ (s : CellShard). block % s.shards) c.2 ∙ p.1.is.share ∙ ap (λ (s : CellShard). s.shard) (sym c.2);
      }

  -- ---- a node with one cell

  module _ (i : ℕ) (one : h.shards i ≡ 1) where
    first : (cell : CellView) → Contains row cell → cell.charter.number ≡ i → (cell.charter.shard ≡ 0) × (cell.charter.shards ≡ 1)
    first cell there is =
        let p = planned cell there in
        let shards : cell.charter.shards ≡ 1 = p.shards ∙ ap h.shards is ∙ one in
        let l = p.shard in
        (omega (arith, l, shards), shards)

    alone : (k : ℕ) (c : CellView) → slice_get row k ≡ Some c → c.charter.number ≡ i → IsAlone row i k
    alone k c at is m d there own =
        let a = first c (Contains-slice_get row k c at) is in
        let b = first d (Contains-slice_get row m d there) own in
        h.own k m c d at there (shard_with (cell_shard_of c.charter) (cell_shard_of d.charter) (is ∙ sym own) (a.0 ∙ sym b.0) (a.1 ∙ sym b.1))

    pub journal_one : (cell : CellView) → Contains row cell → cell.charter.number ≡ i → node_journal row i ≡ cell.journal
    journal_one cell there is = (let q = place_of row cell there in journal_alone row i q.0 cell q.1 is (alone q.0 cell q.1 is))

  -- the state of the one cell is the node's
  pub state_is : (cell : CellView) → Contains row cell → (i : ℕ) → cell.charter.number ≡ i → state_of cell ≡ node_after plan i cell.journal
  state_is cell there i is =
      ap (λ (n : Numbers). after_all (new_state n cell.charter.number cell.charter.crash_after) cell.journal) (cluster cell there)
      ∙ ap (λ (k : ℕ). after_all (new_state plan.config k cell.charter.crash_after) cell.journal) is
      ∙ ap (λ (o : Option ℕ). after_all (new_state plan.config i o) cell.journal) ((planned cell there).crash ∙ ap (crash_after plan.rules) is)

  -- ---- a node with several

  module _ (i : ℕ) (more : 1 < h.shards i) (lasts : crash_after plan.rules i ≡ None) where
    pub serves_shard : (cell : CellView) → Contains row cell → cell.charter.number ≡ i → IsShardOf plan.config i (nature plan.rules i) (h.shards i) cell.charter.shard cell
    serves_shard cell there is =
        let p = planned cell there in
        record {
          kept = All-contains KeptCell row cell kept there;
          cluster = cluster cell there;
          node = is;
          conduct = (p.nature ∙ ap (nature plan.rules) is, p.crash ∙ ap (crash_after plan.rules) is ∙ lasts);
          share = (p.shards ∙ ap h.shards is, refl);
        }

    -- entries of its cells leave the node calm
    pub stays_calm : SeveralCalm → (es : List NodeEntry) → ((e : NodeEntry) → Contains es e → IsIn row i e) → ((node_after plan i es).crashed ≡ false) × ((node_after plan i es).late ≡ [])
    stays_calm calm es in_cells =
        let c = calm plan.config i (nature plan.rules i) (h.shards i) es more (λ e there. (let q = in_cells e there in record { cell = q.cell; serves = serves_shard q.cell q.there q.number; stands = q.stands })) in
        let s : new_state plan.config i None ≡ new_state plan.config i (crash_after plan.rules i) = ap (new_state plan.config i) (sym lasts) in
        (subst (λ (x : NodeState). (after_all x es).crashed ≡ false) s c.0, subst (λ (x : NodeState). (after_all x es).late ≡ []) s c.1)

prunes_by : (s t : NodeState) (k : Nature) → s.crashed ≡ t.crashed → can_prune s k ≡ can_prune t k
prunes_by s t Honest e = rw e refl
prunes_by s t (Lies rule) e = refl

pub nodes_prune : SeveralCalm → NodesPrune
nodes_prune calm plan clock row cell h kept there =
    let i = cell.charter.number in
    let p = planned plan clock row h kept cell there in
    let s = state_is plan clock row h kept cell there i refl in
    let own : can_prune (state_of cell) cell.charter.nature ≡ can_prune (node_after plan i cell.journal) (nature plan.rules i) = ap (λ (x : NodeState). can_prune x cell.charter.nature) s ∙ ap (can_prune (node_after plan i cell.journal)) p.nature in
    own ∙ elim (one_or_several plan clock row h i) [
      | inl one ↦ ap (λ (es : List NodeEntry). can_prune (node_after plan i es) (nature plan.rules i)) (sym (journal_one plan clock row h kept i one cell there refl))
      | inr more ↦ (
          let mine = stays_calm plan clock row h kept i more.0 more.1 calm cell.journal (λ e at. record { cell = cell; there = there; number = refl; stands = at }) in
          let all = stays_calm plan clock row h kept i more.0 more.1 calm (node_journal row i) (journal_cases row i) in
          prunes_by (node_after plan i cell.journal) (node_after plan i (node_journal row i)) (nature plan.rules i) (mine.0 ∙ sym all.0)
          )
    ]

pub nothing_late : SeveralCalm → NothingLate
nothing_late calm plan clock row h kept none i l = elim (one_or_several plan clock row h i) [
  | inl one ↦ (
      let c = cell_for plan clock row h kept i 0 l in
      let there = Contains-slice_get row c.place c.cell c.there in
      ap (λ (es : List NodeEntry). (node_after plan i es).late) (journal_one plan clock row h kept i one c.cell there c.number)
      ∙ ap (λ (s : NodeState). s.late) (sym (state_is plan clock row h kept c.cell there i c.number)) ∙ All-contains HasNoLateMail row c.cell none there
      )
  | inr more ↦ (stays_calm plan clock row h kept i more.0 more.1 calm (node_journal row i) (journal_cases row i)).1
]

-- ---- the journals are kept

of_body : (shard shards : ℕ) (b : Body) → IsShare shard shards b → block_in b % shards ≡ shard
of_body shard shards (Asks a) own = own
of_body shard shards (Answers reply) own = absurd own

-- what is done on a block of a shard is of it, and of no other
share_is : (shard shards : ℕ) (k : Cause) → ComesTo shard shards k → block_for k % shards ≡ shard
share_is shard shards (Comes way ask) h = of_body shard shards ask.body h.0
share_is shard shards (ComesLate ask) h = of_body shard shards ask.body h
share_is shard shards (Prunes block stamp) h = h

filter_all : (p : NodeEntry → Bool) (es : List NodeEntry) → ((e : NodeEntry) → Contains es e → p e ≡ true) → filter p es ≡ es
filter_all p [] f = refl
filter_all p (e ∷ es) f =
    let yes = f e (Contains-head e es) in
    let cut : filter p (e ∷ es) ≡ e ∷ filter p es = rw yes refl in
    cut ∙ ap (λ (l : List NodeEntry). e ∷ l) (filter_all p es (λ x there. f x (Contains-rest x e es there)))

filter_none : (p : NodeEntry → Bool) (es : List NodeEntry) → ((e : NodeEntry) → Contains es e → p e ≡ false) → filter p es ≡ []
filter_none p [] f = refl
filter_none p (e ∷ es) f =
    let no = f e (Contains-head e es) in
    let cut : filter p (e ∷ es) ≡ filter p es = rw no refl in
    cut ∙ filter_none p es (λ x there. f x (Contains-rest x e es there))

-- what stands at a place of a range
in_range : (f : ℕ → CellView) (from n k : ℕ) (cell : CellView) → slice_get (map f (range_with_len from n)) k ≡ Some cell → (k < n) × (f (from + k) ≡ cell)
in_range f from zero k cell is = absurd (Contains-none cell (Contains-slice_get [] k cell is))
in_range f from (suc n) zero cell is = (let e : f from ≡ cell = cc in let z : from + 0 ≡ from = omega arith in (omega arith, ap f z ∙ e))
in_range f from (suc n) (suc k) cell is =
    let q = in_range f (from + 1) n k cell is in
    let z : from + suc k ≡ from + 1 + k = omega arith in
    (let l = q.0 in omega (arith, l), ap f z ∙ q.1)

module _ (plan : Plan) (clock : ClockId) (row : List CellView) (h : ArePlanned plan clock row) (kept : All KeptCell row) (i : ℕ) (l : i < plan.config.n) (up : Ascend (numbers (node_journal row i))) where
  abbrev IsKept : List NodeEntry → Type 0
  IsKept es = IsJournal plan.config i (nature plan.rules i) (crash_after plan.rules i) es

  kept_one : OneCell → h.shards i ≡ 1 → IsKept (node_journal row i)
  kept_one one is =
      let c = cell_for plan clock row h kept i 0 l in
      let there = Contains-slice_get row c.place c.cell c.there in
      let p = planned plan clock row h kept c.cell there in
      let k = one c.cell (All-contains KeptCell row c.cell kept there) in
      let goes1 = subst (λ (n : Numbers). NodeKept c.cell.charter.nature (new_state n c.cell.charter.number c.cell.charter.crash_after) c.cell.journal) (cluster plan clock row h kept c.cell there) k.goes in
      let goes2 = subst (λ (m : ℕ). NodeKept c.cell.charter.nature (new_state plan.config m c.cell.charter.crash_after) c.cell.journal) c.number goes1 in
      let goes3 = subst (λ (o : Option ℕ). NodeKept c.cell.charter.nature (new_state plan.config i o) c.cell.journal) (p.crash ∙ ap (crash_after plan.rules) c.number) goes2 in
      let goes4 = subst (λ (m : Nature). NodeKept m (new_state plan.config i (crash_after plan.rules i)) c.cell.journal) (p.nature ∙ ap (nature plan.rules) c.number) goes3 in
      record { ascends = up; goes = subst (NodeKept (nature plan.rules i) (new_state plan.config i (crash_after plan.rules i))) (sym (journal_one plan clock row h kept i is c.cell there c.number)) goes4 }

  module _ (more : 1 < h.shards i) (lasts : crash_after plan.rules i ≡ None) where
    abbrev n : ℕ
    n = h.shards i

    at : (s : ℕ) → IsCellFor plan clock row h kept i s
    at s = cell_for plan clock row h kept i s l

    shards_are : (d : CellView) → Contains row d → d.charter.number ≡ i → d.charter.shards ≡ n
    shards_are d there is = (planned plan clock row h kept d there).shards ∙ ap h.shards is

    there_at : (s : ℕ) → Contains row (at s).cell
    there_at s = Contains-slice_get row (at s).place (at s).cell (at s).there

    shard_at : (s : ℕ) → s < n → (at s).cell.charter.shard ≡ s
    shard_at s below = sym (at s).share ∙ ap (λ (m : ℕ). s % m) (shards_are (at s).cell (there_at s) (at s).number) ∙ mod-eq_of_lt below

    of_shard : (d : CellView) → Contains row d → d.charter.number ≡ i → (e : NodeEntry) → Contains d.journal e → block_for (cause_of e.act) % n ≡ d.charter.shard
    of_shard d there is e stands =
        let own = All-contains (λ e. IsOfShard d.charter.shard d.charter.shards e.act) d.journal e (All-contains KeptCell row d kept there).share stands in
        share_is d.charter.shard n (cause_of e.act) (subst (λ (m : ℕ). ComesTo d.charter.shard m (cause_of e.act)) (shards_are d there is) own)

    part_is : (s : ℕ) → s < n → filter (is_of_shard s n) (node_journal row i) ≡ (at s).cell.journal
    part_is s below =
        fold_filter (is_of_shard s n) i row [] (at s).place (at s).cell (at s).there (at s).number refl (λ m d there own apart.
        let in_row = Contains-slice_get row m d there in
        filter_none (is_of_shard s n) d.journal (λ e stands. elim (eqb_tells (block_for (cause_of e.act) % n) s) [
          | inr other ↦ other.0
          | inl same ↦ absurd (apart (h.own (at s).place m (at s).cell d (at s).there there (shard_with (cell_shard_of (at s).cell.charter) (cell_shard_of d.charter) ((at s).number ∙ sym own)
              (shard_at s below ∙ sym same.1 ∙ of_shard d in_row own e stands) (shards_are (at s).cell (there_at s) (at s).number ∙ sym (shards_are d in_row own)))))
        ]))
        ∙ filter_all (is_of_shard s n) (at s).cell.journal (λ e stands. elim (eqb_tells (block_for (cause_of e.act) % n) s) [
          | inl same ↦ same.0
          | inr other ↦ absurd (other.1 (of_shard (at s).cell (there_at s) (at s).number e stands ∙ shard_at s below))
        ])

    abbrev cell_at : ℕ → CellView
    cell_at s = (at s).cell

    abbrev cells : List CellView
    cells = map cell_at (range_with_len 0 n)

    long : length cells ≡ n
    long = length-map-range_with_len cell_at 0 n

    by_shard : (P : ℕ → CellView → Type 0) → ((s : ℕ) → s < n → P s (cell_at s)) → (s : ℕ) (cell : CellView) → slice_get cells s ≡ Some cell → P s cell
    by_shard P f s cell is = (let q = in_range cell_at 0 n s cell is in let z : s ≡ 0 + s = omega arith in subst (P s) (ap cell_at z ∙ q.1) (f s q.0))

    are_shards : AreShards plan.config i (nature plan.rules i) n cells
    are_shards = record {
      count = long;
      each = by_shard (λ s cell. IsShardOf plan.config i (nature plan.rules i) n s cell)
          (λ s below. subst (λ (k : ℕ). IsShardOf plan.config i (nature plan.rules i) n k (at s).cell) (shard_at s below) (serves_shard plan clock row h kept i more lasts (at s).cell (there_at s) (at s).number));
    }

    are_joined : AreJoined cells (node_journal row i)
    are_joined = record {
      ascends = up;
      each = λ s cell is. subst (λ (m : ℕ). filter (is_of_shard s m) (node_journal row i) ≡ cell.journal) (sym long) (by_shard (λ s cell. filter (is_of_shard s n) (node_journal row i) ≡ cell.journal) part_is s cell is);
    }

    kept_several : SeveralCells → IsKept (node_journal row i)
    kept_several several =
        subst (λ (o : Option ℕ). IsJournal plan.config i (nature plan.rules i) o (node_journal row i)) (sym lasts) (several plan.config i (nature plan.rules i) n cells (node_journal row i) more are_shards are_joined)

  pub node_is_kept : OneCell → SeveralCells → IsKept (node_journal row i)
  node_is_kept one several = elim (one_or_several plan clock row h i) [ inl is ↦ kept_one one is | inr more ↦ kept_several more.0 more.1 several ]
