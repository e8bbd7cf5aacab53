-- The places of a node's cells, and cells whose nodes are to prune.
use Rattle.std.proofs.Common.{◌≡◌, ℕ, zero, suc, ◌+◌, ◌<◌, ◌≤◌, ◌%◌, Bool, true, cond, List, [], ◌∷◌, ◌++◌, length, map, get_or, refl, sym, ◌∙◌, ap, subst, inl, inr, arith, length-append}
use Rattle.std.specs.Prelude.{slice_get, fold, Result, OnOk, Ok, Err}
use Rattle.std.specs.Result.{result_err}
use Rattle.std.specs.declared.option.Option.TheVariants.{None, Some}
use Rattle.std.specs.List.{AllZip, All}
use Rattle.std.proofs.Math.Nat.{mod-eq_of_lt}
use Rattle.std.proofs.lemmas.Nat.{mod_below}
use Rattle.std.proofs.lemmas.Option.{slice_get_read, slice_get_within, get_or_from_slice_get}
use Rattle.std.proofs.lemmas.List.Elements.{All-head, All-tail, All-map, Contains-get_or}
use Rattle.locked_nodes.proofs.lemmas.Joins.{below_tells}
use Rattle.event_clock.specs.Passes.{ClockId, Holder}
use Rattle.journals.specs.declared.node.NodeEntry.{NodeEntry}
use Rattle.journals.specs.Acts.{can_prune}
use Rattle.locked_nodes.specs.declared.answers.CellRefusal.{CellRefusal}
use Rattle.locked_nodes.specs.declared.cell_shard.CellShard.{CellShard}
use Rattle.locked_nodes.specs.Cells.{CellView, KeptCell, state_of, rechartered}
use Rattle.locked_nodes.specs.CellShards.{IsPlace, cell_shard_of, cell_shards_of}
use Rattle.plan_words.specs.declared.plan.Plan.{Plan}
use Rattle.plan_followed.specs.Asked.{nature}
use Rattle.plan_followed.specs.Nodes.{Pruning, act_of, node_after}
use Rattle.plan_followed.specs.declared.prunes.BlockStamp.{BlockStamp}
use Rattle.phase_threads.specs.Standing.{ArePlanned, HasDonePrunes, NodesPrune, add_cell, node_journal, prunes_at}
use Rattle.phase_threads.proofs.lemmas.Working.{cell_below}
use Rattle.client_threads.specs.Met.{IsKeeper}
use Rattle.client_threads.specs.Pruned.{IsOpenCell, HasMorePrunes, IsServed, ArePlaces, AllPrune, NodePruned, OthersStay, reopened, prunings_of}
use Rattle.client_threads.proofs.Keepers.{keeper_then, same_keeper}
use Rattle.client_threads.proofs.Prunes.{none_more, more_then, same_may, shards_same}
use Rattle.client_threads.proofs.Working.{zip_then, zip_all, IsFixedAs, planned_fixed}
use Rattle.lists.proofs.lemmas.Members.{Contains-none, slice_get-pushed, slice_get-push, all_at_place, Contains-slice_get}

-- ---- places

-- what stands for a shard that isn't there
abbrev pub no_shard : CellShard
no_shard = record { node = 0; shard = 0; shards = 0 }

-- the place of the cell of a shard
pub record IsPlaceOf (cell_shards : List CellShard) (node : ℕ) (places : List ℕ) (shard : ℕ) : Type 0 where
  pub place : ℕ
  pub there : slice_get places shard ≡ Some place
  pub is : IsPlace cell_shards place node shard

-- those of the first shards, so many
pub record ArePlacesTo (cell_shards : List CellShard) (node : ℕ) (places : List ℕ) (count : ℕ) : Type 0 where
  pub long : length places ≡ count
  pub each : (s : ℕ) → s < count → IsPlaceOf cell_shards node places s

pub no_places : (cell_shards : List CellShard) (node : ℕ) → ArePlacesTo cell_shards node [] 0
no_places cell_shards node = record { long = refl; each = λ s l. absurd (omega (arith, l)) }

pub one_place : (cell_shards : List CellShard) (node : ℕ) (places : List ℕ) (count place : ℕ) → ArePlacesTo cell_shards node places count → IsPlace cell_shards place node count → ArePlacesTo cell_shards node (places ++ place ∷ []) (count + 1)
one_place cell_shards node places count place h is = record {
  long = length-append places (place ∷ []) ∙ ap (λ (n : ℕ). n + 1) h.long;
  each = λ s l. elim (below_tells s count) [
    | inl before ↦ (let q = h.each s before.1 in record { place = q.place; there = slice_get-push places place s q.place q.there; is = q.is })
    | inr last ↦ (
        let e : s ≡ count = (let m = last.1 in omega (arith, l, m)) in
        record {
          place = place;
          there = ap (slice_get (places ++ place ∷ [])) (e ∙ sym h.long) ∙ slice_get-pushed places place;
          is = subst (λ (n : ℕ). IsPlace cell_shards place node n) (sym e) is;
        }
        )
  ];
}

-- a shard of the node has as many cells beside it as all of them
shards_are : (cell_shards : List CellShard) (node : ℕ) (h : IsServed cell_shards node) (place block : ℕ) (p : IsPlace cell_shards place node block) → p.cell_shard.shards ≡ h.shards
shards_are cell_shards node h place block p = all_at_place (λ (s : CellShard). s.node ≡ node → s.shards ≡ h.shards) cell_shards place p.cell_shard h.alike p.there p.is.of

pub all_places : (cell_shards : List CellShard) (node : ℕ) (places : List ℕ) (place shards : ℕ) (h : IsServed cell_shards node) (p : IsPlace cell_shards place node 0) → shards ≡ p.cell_shard.shards → ArePlacesTo cell_shards node places shards → ArePlaces cell_shards node places
all_places cell_shards node places place shards h p is to = record {
  some = (let s = some in let l = to.long in omega (arith, s, l));
  each = λ block. (
      let q = to.each (block % shards) (mod_below block shards some) in
      let n : q.is.cell_shard.shards ≡ shards = shards_are cell_shards node h q.place (block % shards) q.is ∙ sym count in
      let rest : (block % shards) % shards ≡ block % shards = mod-eq_of_lt (mod_below block shards some) in (
        q.place,
        ap (λ (m : ℕ). slice_get places (block % m)) to.long ∙ q.there,
        record {
          cell_shard = q.is.cell_shard;
          there = q.is.there;
          is = record {
            of = q.is.is.of;
            share = ap (λ (m : ℕ). block % m) n ∙ sym rest ∙ ap (λ (m : ℕ). (block % shards) % m) (sym n) ∙ q.is.is.share;
          };
        },
      )
      );
}
  where
    count : shards ≡ h.shards
    count = is ∙ shards_are cell_shards node h place 0 p

    some : 0 < shards
    some = subst (λ (m : ℕ). 0 < m) (sym is) (all_at_place (λ (s : CellShard). 0 < s.shards) cell_shards place p.cell_shard h.some p.there)

-- ---- the cell at a place

-- the cell for a block of the node stands there, whatever stands for one that isn't there
pub record StandsAt (node block : ℕ) (cells : List CellView) (place : ℕ) : Type 0 where
  pub within : place < length cells
  pub there : (d : CellView) → slice_get cells place ≡ Some (get_or cells place d)
  pub number : (d : CellView) → (get_or cells place d).charter.number ≡ node
  pub share : (d : CellView) → block % (get_or cells place d).charter.shards ≡ (get_or cells place d).charter.shard

shard_at : (cells : List CellView) (k : ℕ) (s : CellShard) → slice_get (cell_shards_of cells) k ≡ Some s → (c : CellView) × (slice_get cells k ≡ Some c) × (cell_shard_of c.charter ≡ s)
shard_at [] k s at = absurd (Contains-none s (Contains-slice_get [] k s at))
shard_at (c ∷ cs) zero s at = (let e : cell_shard_of c.charter ≡ s = cc in (c, refl, e))
shard_at (c ∷ cs) (suc k) s at = shard_at cs k s at

pub stands_at : (cells : List CellView) (cell_shards : List CellShard) (node block place : ℕ) → cell_shards ≡ cell_shards_of cells → IsPlace cell_shards place node block → StandsAt node block cells place
stands_at cells cell_shards node block place is p =
    let q = shard_at cells place p.cell_shard (subst (λ (l : List CellShard). slice_get l place ≡ Some p.cell_shard) is p.there) in
    let cell : (d : CellView) → get_or cells place d ≡ q.0 = λ d. get_or_from_slice_get cells place q.0 d q.1 in
    let number : q.0.charter.number ≡ node = ap (λ (s : CellShard). s.node) q.2 ∙ p.is.of in
    let share : block % q.0.charter.shards ≡ q.0.charter.shard = ap (λ (s : CellShard). block % s.shards) q.2 ∙ p.is.share ∙ ap (λ (s : CellShard). s.shard) (sym q.2) in
    record {
      within = slice_get_within cells place q.0 q.1;
      there = λ d. q.1 ∙ ap (λ (c : CellView). Some c) (sym (cell d));
      number = λ d. ap (λ (c : CellView). c.charter.number) (cell d) ∙ number;
      share = λ d. subst (λ (c : CellView). block % c.charter.shards ≡ c.charter.shard) (sym (cell d)) share;
    }

-- where the place was looked up by the block
pub found : (old now : List CellView) (cell_shards : List CellShard) (node block place : ℕ) (places : List ℕ) (n : ℕ) → cell_shards ≡ cell_shards_of old → AllZip HasMorePrunes old now → ArePlaces cell_shards node places → n ≡ length places → place ≡ get_or places (block % n) place → StandsAt node block now place
found old now cell_shards node block place places n is z are long looked =
    let q = are.each block in
    let some : 0 < n = (let l = are.some in omega (arith, l, long)) in
    let at : slice_get places (block % n) ≡ Some place = slice_get_read places n (block % n) place long (mod_below block n some) looked in
    let there : slice_get places (block % n) ≡ Some q.0 = ap (λ (m : ℕ). slice_get places (block % m)) long ∙ q.1 in
    let same : q.0 ≡ place = cc (at, there) in
    stands_at now cell_shards node block place (is ∙ sym (shards_same old now z)) (subst (λ (k : ℕ). IsPlace cell_shards k node block) same q.2)

-- ---- the nodes of a plan

pub served : (plan : Plan) (clock : ClockId) (cells : List CellView) → ArePlanned plan clock cells → (node : ℕ) → node < plan.config.n → IsServed (cell_shards_of cells) node
served plan clock cells h node l = record {
  some = All-map (λ (s : CellShard). 0 < s.shards) (λ (c : CellView). cell_shard_of c.charter) cells (λ k d lt. (h.cells.each k d lt).some);
  there = λ block. h.cells.cover node block l;
  shards = h.shards node;
  alike = All-map (λ (s : CellShard). s.node ≡ node → s.shards ≡ h.shards node) (λ (c : CellView). cell_shard_of c.charter) cells (λ k d lt is. (h.each k d lt).shards ∙ ap h.shards is);
}

-- ---- cells under new charters

pub reopened_fixed : (cells : List CellView) → All KeptCell cells → AllZip IsFixedAs cells (reopened cells)
reopened_fixed [] kept = tt
reopened_fixed (c ∷ cells) kept = (
  record { config = refl; number = refl; whole = (refl, refl); nature = refl; crash = refl; clock = (All-head KeptCell c cells kept).own.0 },
  reopened_fixed cells (All-tail KeptCell c cells kept),
)

pub reopened_planned : (plan : Plan) (clock : ClockId) (cells : List CellView) → All KeptCell cells → ArePlanned plan clock cells → ArePlanned plan clock (reopened cells)
reopened_planned plan clock cells kept h = planned_fixed plan clock cells (reopened cells) (reopened_fixed cells kept) h

pub reopened_open : (plan : Plan) (clock : ClockId) (bound : ℕ) (ps : List BlockStamp) (cells : List CellView) → ArePlanned plan clock cells → All KeptCell cells → All (λ c. c.pass.seen ≤ bound) cells → All (λ x. x.block < plan.config.blocks) ps
    → All (IsOpenCell clock bound ps) (reopened cells)
reopened_open plan clock bound ps cells h kept seen blocks = All-map (IsOpenCell clock bound ps) (λ (c : CellView). rechartered c true) cells (λ k d lt.
    let own = kept k d lt in
    let of = h.cells.each k d lt in
    record {
      ticks = own.own.0 ∙ of.ticks;
      may = refl;
      blocks = subst (λ n. All (λ (x : BlockStamp). x.block < n.blocks) ps) (sym of.cluster) blocks;
      seen = seen k d lt;
      below = λ i e within. cell_below _ own bound (seen k d lt) _ (Contains-get_or _ i e within);
    })

fold_reopened : (i : ℕ) (cells : List CellView) (acc : List NodeEntry) → fold (add_cell i) acc (reopened cells) ≡ fold (add_cell i) acc cells
fold_reopened i [] acc = refl
fold_reopened i (c ∷ cells) acc = fold_reopened i cells (add_cell i acc c)

-- their nodes' journals are the same
pub reopened_journal : (cells : List CellView) (i : ℕ) → node_journal (reopened cells) i ≡ node_journal cells i
reopened_journal cells i = fold_reopened i cells []

pub reopened_prunes : (plan : Plan) (cells : List CellView) (i : ℕ) → prunes_at plan (reopened cells) i ≡ prunes_at plan cells i
reopened_prunes plan cells i = ap (λ (es : List NodeEntry). can_prune (node_after plan i es) (nature plan.rules i)) (reopened_journal cells i)

-- ---- node after node

-- what holds where no refusal came
pub unrefused : {P : Type 0} (r : Result (Unit {0}) CellRefusal) → OnOk r P → result_err r ≡ None → P
unrefused (Ok u) h e = h
unrefused (Err x) h e = absurd (cc)

pub done_as : (from low : ℕ) (ps : List Pruning) (may also : Bool) (old was new now : List NodeEntry) → low ≤ from → also ≡ may → was ≡ old → now ≡ new → HasDonePrunes from ps may old new → HasDonePrunes low ps also was now
done_as from low ps may also old was new now le b o n h = record {
  more = h.more;
  grown = n ∙ h.grown ∙ ap (λ (l : List NodeEntry). l ++ h.more) (sym o);
  later = λ e there. (let l = h.later e there in omega (arith, l, le));
  acts = h.acts ∙ ap (λ (t : Bool). cond t (map act_of ps) []) (sym b);
}

-- the first nodes, so many, have pruned
pub record HavePrunedTo (plan : Plan) (clock : ClockId) (first keeper : Holder) (ps : List BlockStamp) (count : ℕ) (old now : List CellView) : Type 0 where
  pub goes : IsKeeper first keeper
  pub cells : All (IsOpenCell clock keeper.seen ps) now
  pub some : AllZip HasMorePrunes old now
  pub done : (i : ℕ) → i < count → HasDonePrunes first.seen (prunings_of ps) (prunes_at plan old i) (node_journal old i) (node_journal now i)
  pub left : (i : ℕ) → count ≤ i → node_journal now i ≡ node_journal old i

pub none_pruned : (plan : Plan) (clock : ClockId) (first : Holder) (ps : List BlockStamp) (cells : List CellView) → All (IsOpenCell clock first.seen ps) cells → HavePrunedTo plan clock first first ps 0 cells cells
none_pruned plan clock first ps cells h = record { goes = same_keeper first; cells = h; some = none_more cells; done = λ i l. absurd (omega (arith, l)); left = λ i l. refl }

-- a node's cells prune as the plan's node does
pub all_prune : NodesPrune → (plan : Plan) (clock : ClockId) (node : ℕ) (old now : List CellView) → ArePlanned plan clock old → All KeptCell old → AllZip HasMorePrunes old now → AllPrune node (prunes_at plan old node) now
all_prune nodes plan clock node old now h kept z =
    zip_all HasMorePrunes (λ x. can_prune (state_of x) x.charter.nature ≡ prunes_at plan old x.charter.number) (λ c. c.charter.number ≡ node → can_prune (state_of c) c.charter.nature ≡ prunes_at plan old node) old now
    (λ x y m is own. same_may x y m ∙ is ∙ ap (prunes_at plan old) (ap (λ c. c.number) (sym m.charter) ∙ own)) z
    (λ k d lt. nodes plan clock old _ h kept (Contains-get_or old k d lt))

pub one_pruned : (plan : Plan) (clock : ClockId) (first keeper next : Holder) (ps : List BlockStamp) (count : ℕ) (old now new : List CellView) → HavePrunedTo plan clock first keeper ps count old now
    → IsKeeper keeper next → All (IsOpenCell clock next.seen ps) new → AllZip HasMorePrunes now new
    → AllPrune count (prunes_at plan old count) now → NodePruned keeper.seen ps count now new → OthersStay count now new → HavePrunedTo plan clock first next ps (count + 1) old new
one_pruned plan clock first keeper next ps count old now new h goes cells some alike did others = record {
  goes = keeper_then first keeper next h.goes goes;
  cells = cells;
  some = zip_then HasMorePrunes HasMorePrunes HasMorePrunes old now new more_then h.some some;
  done = λ i l. elim (below_tells i count) [
    | inl before ↦ (
        let stays = others i (λ e. let b = before.1 in omega (arith, e, b)) in
        done_as first.seen first.seen (prunings_of ps) (prunes_at plan old i) (prunes_at plan old i) (node_journal old i) (node_journal old i) (node_journal now i) (node_journal new i) (omega arith) refl refl stays (h.done i before.1)
        )
    | inr last ↦ (
        let e : count ≡ i = (let m = last.1 in omega (arith, l, m)) in
        let d = did (prunes_at plan old count) alike in
        let was = h.left count (omega arith) in
        let low = h.goes.seen in
        subst (λ (j : ℕ). HasDonePrunes first.seen (prunings_of ps) (prunes_at plan old j) (node_journal old j) (node_journal new j)) e
        (done_as keeper.seen first.seen (prunings_of ps) (prunes_at plan old count) (prunes_at plan old count) (node_journal now count) (node_journal old count) (node_journal new count) (node_journal new count) low refl (sym was) refl d)
        )
  ];
  left = λ i l. others i (λ e. omega (arith, e, l)) ∙ h.left i (omega (arith, l));
}
