-- A cell with one more entry, with a pass that met another one, and under another charter.
use Rattle.std.proofs.Common.{◌≡◌, ℕ, ◌+◌, ◌≤◌, ◌<◌, Bool, true, false, List, [], ◌∷◌, ◌++◌, length, take, drop, refl, sym, ap, subst, ◌∙◌, arith}
use Rattle.std.specs.Prelude.{All, if◌then◌else◌}
use Rattle.std.proofs.lemmas.List.{take-append-le, drop-append-le, map-append, length-append, length-map, take-append-drop}
use Rattle.std.proofs.Math.Seq.{drop-length, take-length}
use Rattle.std.proofs.lemmas.List.Elements.{All-push, All-nil, All-head}
use Rattle.quorum_rules.specs.Limits.{Numbers}
use Rattle.protocol.specs.Messages.{Message}
use Rattle.event_clock.specs.Passes.{Holder, drew, met}
use Rattle.journals.specs.declared.desk.Way.{Way}
use Rattle.journals.specs.declared.node.Nature.{Nature}
use Rattle.journals.specs.declared.node.NodeAct.{NodeAct}
use Rattle.journals.specs.declared.node.NodeEntry.{NodeEntry}
use Rattle.journals.specs.Acts.{NodeState, act, late_act, after, after_all, IsAct, NodeKept}
use Rattle.journals.specs.Merged.{CallsGo, LateActsGo}
use Rattle.locked_nodes.specs.declared.charter.Charter.{Charter}
use Rattle.locked_nodes.specs.declared.charter.Item.TheVariants.{Entry}
use Rattle.locked_nodes.specs.declared.answers.Late.{Late}
use Rattle.locked_nodes.specs.declared.answers.Late.TheVariants.{Delivered, Lost}
use Rattle.locked_nodes.specs.Cells.{CellView, Serves, HoldsWhole, IsOfShard, IsPrune, Rises, numbers, first_state, state_of, loses, IsCell, BroughtLate, entry, next_charter, items}
use Rattle.locked_nodes.proofs.Causes.{act_prunes_not, late_act_prunes_not, act_share, late_act_share}
use Rattle.locked_nodes.proofs.Keeping.{after_all_keeps, served_asks, late_serves}

-- a cell's list has one more than its journal
pub length_items : (cell : CellView) → length (items cell) ≡ length cell.journal + 1
length_items cell = omega (arith, length-map cell.journal (λ (e : NodeEntry). Entry e))

pub after_all_snoc : (s : NodeState) (es : List NodeEntry) (e : NodeEntry) → after_all s (es ++ e ∷ []) ≡ after (after_all s es) e.act
after_all_snoc s [] e = refl
after_all_snoc s (x ∷ es) e = after_all_snoc (after s x.act) es e

kept_snoc : (nature : Nature) (s : NodeState) (es : List NodeEntry) (e : NodeEntry) → NodeKept nature s es → IsAct nature (after_all s es) e.act → NodeKept nature s (es ++ e ∷ [])
kept_snoc nature s [] e kept is = (is, tt)
kept_snoc nature s (x ∷ es) e kept is = (kept.0, kept_snoc nature (after s x.act) es e kept.1 is)

pub rises_snoc : (low : ℕ) (xs : List ℕ) (high y : ℕ) → Rises low xs high → high ≤ y → Rises low (xs ++ y ∷ []) (y + 1)
rises_snoc low [] high y rises le = (omega arith, omega arith)
rises_snoc low (x ∷ xs) high y rises le = (rises.0, rises_snoc (x + 1) xs high y rises.1 le)

pub rises_append : (low : ℕ) (xs : List ℕ) (mid : ℕ) (ys : List ℕ) (high : ℕ) → Rises low xs mid → Rises mid ys high → Rises low (xs ++ ys) high
rises_append low [] mid [] high a b = omega arith
rises_append low [] mid (y ∷ ys) high a b = (omega arith, b.1)
rises_append low (x ∷ xs) mid ys high a b = (a.0, rises_append (x + 1) xs mid ys high a.1 b)

pub rises_more : (low : ℕ) (xs : List ℕ) (high higher : ℕ) → Rises low xs high → high ≤ higher → Rises low xs higher
rises_more low [] high higher a le = omega arith
rises_more low (x ∷ xs) high higher a le = (a.0, rises_more (x + 1) xs high higher a.1 le)

numbers_snoc : (es : List NodeEntry) (e : NodeEntry) → numbers (es ++ e ∷ []) ≡ numbers es ++ e.number ∷ []
numbers_snoc es e = map-append (λ (x : NodeEntry). x.number) es (e ∷ [])

-- what an act must be to join the journal of a cell in this state
pub record MayJoin (c : Charter) (s : NodeState) (a : NodeAct) : Type 0 where
  pub is : IsAct c.nature s a
  pub share : IsOfShard c.shard c.shards a
  pub calm : c.prunes ≡ false → IsPrune a → ⊥

-- a cell that did one thing more
cell_grows : (c : Charter) (s : NodeState) (es : List NodeEntry) (p : Holder) (n : ℕ) (a : NodeAct) → IsCell c s es p → MayJoin c s a → p.seen ≤ n
    → IsCell c (after s a) (es ++ entry n a ∷ []) (drew p n)
cell_grows c s es p n a cell may le =
    let e = entry n a in
    let same : drop c.base (es ++ e ∷ []) ≡ drop c.base es ++ e ∷ [] = drop-append-le c.base es (e ∷ []) cell.based in
    let front : take c.base (es ++ e ∷ []) ≡ take c.base es = take-append-le c.base es (e ∷ []) cell.based in
    record {
      below = cell.below;
      kept = kept_snoc c.nature (first_state c) es e cell.kept (subst (λ t. IsAct c.nature t a) cell.stands may.is);
      stands = ap (λ t. after t a) cell.stands ∙ sym (after_all_snoc (first_state c) es e);
      share = All-push (λ x. IsOfShard c.shard c.shards x.act) es e cell.share may.share;
      own = cell.own;
      drawn = ap (λ l. l ++ n ∷ []) cell.drawn ∙ sym (numbers_snoc es e);
      based = omega (arith, cell.based, length-append es (e ∷ []));
      before = subst (λ l. Rises 0 (numbers l) c.pass.seen) (sym front) cell.before;
      since = subst (λ l. Rises c.pass.seen (numbers l) (n + 1)) (sym same)
          (subst (λ l. Rises c.pass.seen l (n + 1)) (sym (numbers_snoc (drop c.base es) e)) (rises_snoc c.pass.seen (numbers (drop c.base es)) p.seen n cell.since le));
      calm = λ none. subst (All (λ x. IsPrune x.act → ⊥)) (sym same) (All-push (λ x. IsPrune x.act → ⊥) (drop c.base es) e (cell.calm none) (may.calm none));
    }

-- the same, as it stands in the cell's fields
pub cell_joins : (c : Charter) (s : NodeState) (es : List NodeEntry) (p : Holder) (n : ℕ) (a : NodeAct) (t : NodeState) (fs gs : List NodeEntry) (q : Holder)
    → IsCell c s es p → MayJoin c s a → p.seen ≤ n → t ≡ after s a → fs ≡ es → gs ≡ fs ++ entry n a ∷ [] → q ≡ drew p n → IsCell c t gs q
cell_joins c s es p n a t fs gs q cell may le after_is same grew drew_is =
    let list : es ++ entry n a ∷ [] ≡ gs = ap (λ l. l ++ entry n a ∷ []) (sym same) ∙ sym grew in
    let next : IsCell c (after s a) (es ++ entry n a ∷ []) (drew p n) = cell_grows c s es p n a cell may le in
    subst (λ x. IsCell c x gs q) (sym after_is) (subst (λ l. IsCell c (after s a) l q) list (subst (IsCell c (after s a) (es ++ entry n a ∷ [])) (sym drew_is) next))

-- a cell is of the node that its charter names
pub node_is : (c : Charter) (s : NodeState) (es : List NodeEntry) (p : Holder) → IsCell c s es p → (s.node.config ≡ c.config) × (s.node.number ≡ c.number)
node_is c s es p cell =
    let same = after_all_keeps (first_state c) es in
    (ap (λ t. t.node.config) cell.stands ∙ same.0, ap (λ t. t.node.number) cell.stands ∙ same.1)

-- a block of the cell's cluster is one of the node's
pub block_there : (c : Charter) (s : NodeState) (es : List NodeEntry) (p : Holder) (block : ℕ) → IsCell c s es p → block < c.config.blocks → block < s.node.config.blocks
block_there c s es p block cell there = subst (λ (k : Numbers). block < k.blocks) (sym (node_is c s es p cell).0) there

-- the asks that are held back in a cell are asks that it serves
pub cell_late : (c : Charter) (s : NodeState) (es : List NodeEntry) (p : Holder) → IsCell c s es p → All (Serves c) s.late
cell_late c s es p cell = subst (λ t. All (Serves c) t.late) (sym cell.stands) (late_serves c (first_state c) es refl cell.kept cell.share (All-nil (Serves c)))

-- a step, as it stands in the cell's fields
pub cell_steps : CallsGo → (c : Charter) (s : NodeState) (es : List NodeEntry) (p : Holder) (nature : Nature) (way : Way) (ask : Message) (n : ℕ) (a : NodeAct) (t : NodeState) (fs gs : List NodeEntry) (q : Holder)
    → IsCell c s es p → nature ≡ c.nature → Serves c ask → HoldsWhole c way → p.seen ≤ n
    → a ≡ act s nature way ask → t ≡ after s (act s nature way ask) → fs ≡ es → gs ≡ fs ++ entry n a ∷ [] → q ≡ drew p n → IsCell c t gs q
cell_steps go c s es p nature way ask n a t fs gs q cell conduct serves whole le is after_is same grew drew_is =
    let done : act s c.nature way ask ≡ a = ap (λ k. act s k way ask) (sym conduct) ∙ sym is in
    let may : MayJoin c s (act s c.nature way ask) = record {
      is = (go c.nature s way ask (served_asks c s ask (node_is c s es p cell).1 serves)).0;
      share = act_share c.nature s ask c.shard c.shards way serves.1 whole;
      calm = λ none prune. act_prunes_not c.nature s ask way prune;
    } in
    cell_joins c s es p n a t fs gs q cell (subst (MayJoin c s) done may) le (after_is ∙ ap (λ x. after s x) (sym is)) same grew drew_is

-- and a late delivery
pub cell_lates : LateActsGo → (c : Charter) (s : NodeState) (es : List NodeEntry) (p : Holder) (nature : Nature) (ask : Message) (rest : List Message) (n : ℕ) (a : NodeAct) (t : NodeState) (fs gs : List NodeEntry) (q : Holder)
    → IsCell c s es p → nature ≡ c.nature → s.late ≡ ask ∷ rest → p.seen ≤ n
    → a ≡ late_act s nature ask → t ≡ after s (late_act s nature ask) → fs ≡ es → gs ≡ fs ++ entry n a ∷ [] → q ≡ drew p n → IsCell c t gs q
cell_lates go c s es p nature ask rest n a t fs gs q cell conduct oldest le is after_is same grew drew_is =
    let serves : Serves c ask = All-head (Serves c) ask rest (subst (All (Serves c)) oldest (cell_late c s es p cell)) in
    let done : late_act s c.nature ask ≡ a = ap (λ k. late_act s k ask) (sym conduct) ∙ sym is in
    let may : MayJoin c s (late_act s c.nature ask) = record {
      is = (go c.nature s ask (served_asks c s ask (node_is c s es p cell).1 serves) (rest, oldest)).0;
      share = late_act_share c.nature s ask c.shard c.shards serves.1;
      calm = λ none prune. late_act_prunes_not c.nature s ask prune;
    } in
    cell_joins c s es p n a t fs gs q cell (subst (MayJoin c s) done may) le (after_is ∙ ap (λ x. after s x) (sym is)) same grew drew_is

-- where an ask is held back, there is an oldest one
pub oldest_of : (late : List Message) → (late ≡ [] → ⊥) → (ask : Message) × (rest : List Message) × (late ≡ ask ∷ rest)
oldest_of [] some = absurd (some refl)
oldest_of (ask ∷ rest) some = (ask, rest, refl)

-- what contracts see of a late delivery
pub late_came : (v : CellView) (c : Charter) (s : NodeState) (es : List NodeEntry) (p : Holder) (nature : Nature) (ask : Message) (rest : List Message) (n : ℕ) (a : NodeAct) (fs gs : List NodeEntry) (q : Holder) (lost : Bool)
    → record { charter = c; journal = es; pass = p } ≡ v → IsCell c s es p → nature ≡ c.nature → s.late ≡ ask ∷ rest
    → a ≡ late_act s nature ask → fs ≡ es → gs ≡ fs ++ entry n a ∷ [] → q ≡ drew p n → lost ≡ loses s nature
    → BroughtLate v n (record { charter = c; journal = gs; pass = q }) × (loses (state_of v) v.charter.nature ≡ lost)
late_came v c s es p nature ask rest n a fs gs q lost view cell conduct oldest is same grew drew_is lost_is =
    let u : CellView = record { charter = c; journal = es; pass = p } in
    let done : a ≡ late_act (state_of u) c.nature ask = is ∙ ap (λ k. late_act s k ask) conduct ∙ ap (λ x. late_act x c.nature ask) cell.stands in
    let list : gs ≡ es ++ entry n (late_act (state_of u) c.nature ask) ∷ [] = grew ∙ ap (λ l. l ++ entry n a ∷ []) same ∙ ap (λ x. es ++ entry n x ∷ []) done in
    let came : BroughtLate u n (record { charter = c; journal = gs; pass = q }) = record {
      ask = ask;
      oldest = (rest, ap (λ x. x.late) (sym cell.stands) ∙ oldest);
      cell = ap (λ (l : List NodeEntry). record { charter = c; journal = l; pass = q }) list ∙ ap (λ (x : Holder). record { charter = c; journal = es ++ entry n (late_act (state_of u) c.nature ask) ∷ []; pass = x }) drew_is;
    } in
    let loss : loses (state_of u) c.nature ≡ lost = sym (lost_is ∙ ap (λ k. loses s k) conduct ∙ ap (λ x. loses x c.nature) cell.stands) in
    subst (λ x. BroughtLate x n (record { charter = c; journal = gs; pass = q }) × (loses (state_of x) x.charter.nature ≡ lost)) view (came, loss)

-- which of the two was told
pub told_delivered : (lost : Bool) (number n : ℕ) (late : Late) → late ≡ (if lost then Lost number else Delivered number) → late ≡ Delivered n → (lost ≡ false) × (number ≡ n)
told_delivered true number n late told is = absurd (cc)
told_delivered false number n late told is = (refl, cc)

pub told_lost : (lost : Bool) (number n : ℕ) (late : Late) → late ≡ (if lost then Lost number else Delivered number) → late ≡ Lost n → (lost ≡ true) × (number ≡ n)
told_lost true number n late told is = (refl, cc)
told_lost false number n late told is = absurd (cc)

-- a cell whose pass met another one
pub cell_meets : (c : Charter) (s : NodeState) (es : List NodeEntry) (p q : Holder) → IsCell c s es p → IsCell c s es (met p q)
cell_meets c s es p q cell = record {
  below = cell.below;
  kept = cell.kept;
  stands = cell.stands;
  share = cell.share;
  own = cell.own;
  drawn = cell.drawn;
  based = cell.based;
  before = cell.before;
  since = rises_more c.pass.seen (numbers (drop c.base es)) p.seen (met p q).seen cell.since (omega arith);
  calm = cell.calm;
}

-- the numbers of the whole journal ascend
pub cell_rises : (c : Charter) (s : NodeState) (es : List NodeEntry) (p : Holder) → IsCell c s es p → Rises 0 (numbers es) p.seen
cell_rises c s es p cell =
    let both = rises_append 0 (numbers (take c.base es)) c.pass.seen (numbers (drop c.base es)) p.seen cell.before cell.since in
    subst (λ l. Rises 0 l p.seen) (sym (map-append (λ (x : NodeEntry). x.number) (take c.base es) (drop c.base es)) ∙ ap numbers (take-append-drop c.base es)) both

-- the cell under the charter of a next phase
pub cell_goes_on : (cell : CellView) (s : NodeState) (prunes : Bool) → IsCell cell.charter s cell.journal cell.pass → IsCell (next_charter cell prunes) s cell.journal cell.pass
cell_goes_on cell s prunes is =
    let es = cell.journal in
    record {
      below = is.below;
      kept = is.kept;
      stands = is.stands;
      share = is.share;
      own = (refl, refl);
      drawn = is.drawn;
      based = omega arith;
      before = subst (λ l. Rises 0 (numbers l) cell.pass.seen) (sym (take-length es)) (cell_rises cell.charter s es cell.pass is);
      since = subst (λ l. Rises cell.pass.seen (numbers l) cell.pass.seen) (sym (drop-length es)) (omega arith);
      calm = λ none. subst (All (λ x. IsPrune x.act → ⊥)) (sym (drop-length es)) (All-nil (λ x. IsPrune x.act → ⊥));
    }
