-- Prunes that follow one another in the cells of a node.
use Rattle.std.proofs.Common.{◌≡◌, ℕ, zero, suc, ◌+◌, ◌<◌, ◌≤◌, Bool, true, false, cond, List, [], ◌∷◌, ◌++◌, map, set, get_or, refl, sym, ◌∙◌, ap, subst, inl, inr, arith, append_assoc}
use Rattle.std.specs.Prelude.{slice_get}
use Rattle.std.specs.declared.option.Option.TheVariants.{Some}
use Rattle.std.specs.List.{AllZip, All, AllByRecursion}
use Rattle.std.proofs.lemmas.List.{map-append}
use Rattle.std.proofs.lemmas.List.Elements.{Contains-append_cases, All-nil, All-cons, All-head, All-tail, All-append, recursion_from_All}
use Rattle.protocol.proofs.lemmas.Lists.{append_nil}
use Rattle.event_clock.specs.Passes.{ClockId, Holder}
use Rattle.journals.specs.declared.node.Nature.{Nature}
use Rattle.journals.specs.declared.node.Nature.TheVariants.{Honest, Lying as Lies}
use Rattle.journals.specs.declared.node.NodeAct.{NodeAct}
use Rattle.journals.specs.declared.node.NodeAct.TheVariants.{Answered, Lied, Silent, CrashedAt, Delivered, LateLost, Pruned}
use Rattle.journals.specs.declared.node.NodeEntry.{NodeEntry}
use Rattle.journals.specs.Acts.{NodeState, after, after_all, can_prune}
use Rattle.locked_nodes.specs.Cells.{CellView, IsPrune, state_of, first_state, entry, with_entry, with_seen}
use Rattle.locked_nodes.specs.declared.answers.Pruning.{Pruning as Answer}
use Rattle.locked_nodes.specs.declared.answers.Pruning.TheVariants.{Pruned as PrunedAt, Skipped}
use Rattle.locked_nodes.specs.CellShards.{cell_shard_of, cell_shards_of}
use Rattle.plan_followed.specs.Nodes.{act_of}
use Rattle.plan_followed.specs.declared.prunes.BlockStamp.{BlockStamp}
use Rattle.phase_threads.specs.Standing.{node_journal}
use Rattle.phase_threads.proofs.lemmas.Nodes.{journal_snoc, journal_other}
use Rattle.client_threads.specs.Met.{IsKeeper}
use Rattle.client_threads.specs.Pruned.{IsOpenCell, HasMorePrunes, AllPrune, NodePruned, OthersStay, prunings_of, pruning_of}
use Rattle.client_threads.proofs.Keepers.{same_keeper, set_all}
use Rattle.client_threads.proofs.Working.{beside_at}
use Rattle.lists.proofs.lemmas.Members.{Contains-none, Contains-one, all_at_place}

-- ---- a cell with prunes more

pub no_more : (c : CellView) → HasMorePrunes c c
no_more c = record { charter = refl; more = []; grown = append_nil c.journal; prunes = All-nil (λ (e : NodeEntry). IsPrune e.act) }

pub more_then : (a b c : CellView) → HasMorePrunes a b → HasMorePrunes b c → HasMorePrunes a c
more_then a b c x y = record {
  charter = y.charter ∙ x.charter;
  more = x.more ++ y.more;
  grown = y.grown ∙ ap (λ (es : List NodeEntry). es ++ y.more) x.grown ∙ append_assoc a.journal x.more y.more;
  prunes = All-append (λ (e : NodeEntry). IsPrune e.act) x.more y.more x.prunes y.prunes;
}

one_more : (c : CellView) (n : ℕ) (x : BlockStamp) → HasMorePrunes c (with_entry c n (Pruned x.block x.stamp))
one_more c n x = record {
  charter = refl;
  more = entry n (Pruned x.block x.stamp) ∷ [];
  grown = refl;
  prunes = All-cons (λ (e : NodeEntry). IsPrune e.act) (entry n (Pruned x.block x.stamp)) [] tt (All-nil (λ (e : NodeEntry). IsPrune e.act));
}

-- a prune leaves a node up that was up
still_may : (s : NodeState) (nature : Nature) (a : NodeAct) → IsPrune a → can_prune (after s a) nature ≡ can_prune s nature
still_may s Honest (Pruned block stamp) h = refl
still_may s (Lies rule) (Pruned block stamp) h = refl
still_may s nature (Answered ask reply) h = absurd h
still_may s nature (Lied ask reply) h = absurd h
still_may s nature (Silent ask why) h = absurd h
still_may s nature (CrashedAt ask late) h = absurd h
still_may s nature (Delivered ask reply) h = absurd h
still_may s nature (LateLost ask) h = absurd h

may_after : (s : NodeState) (nature : Nature) (es : List NodeEntry) → All (λ e. IsPrune e.act) es → can_prune (after_all s es) nature ≡ can_prune s nature
may_after s nature [] all = refl
may_after s nature (e ∷ es) all =
    may_after (after s e.act) nature es (All-tail (λ (e : NodeEntry). IsPrune e.act) e es all) ∙ still_may s nature e.act (All-head (λ (e : NodeEntry). IsPrune e.act) e es all)

after_append : (s : NodeState) (es more : List NodeEntry) → after_all s (es ++ more) ≡ after_all (after_all s es) more
after_append s [] more = refl
after_append s (e ∷ es) more = after_append (after s e.act) es more

pub same_may : (x y : CellView) → HasMorePrunes x y → can_prune (state_of y) y.charter.nature ≡ can_prune (state_of x) x.charter.nature
same_may x y h =
    ap (λ c. can_prune (after_all (first_state c) y.journal) c.nature) h.charter ∙ ap (λ (es : List NodeEntry). can_prune (after_all (first_state x.charter) es) x.charter.nature) h.grown
    ∙ ap (λ (s : NodeState). can_prune s x.charter.nature) (after_append (first_state x.charter) x.journal h.more) ∙ may_after (state_of x) x.charter.nature h.more h.prunes

-- ---- the cells of a run

pub none_more : (cells : List CellView) → AllZip HasMorePrunes cells cells
none_more [] = tt
none_more (c ∷ cells) = (no_more c, none_more cells)

pub shards_same : (xs ys : List CellView) → AllZip HasMorePrunes xs ys → cell_shards_of ys ≡ cell_shards_of xs
shards_same [] [] z = refl
shards_same [] (y ∷ ys) z = absurd z
shards_same (x ∷ xs) [] z = absurd z
shards_same (x ∷ xs) (y ∷ ys) z = λ i. cell_shard_of (z.0.charter i) ∷ shards_same xs ys z.1 i

-- one item beside another becomes another one
zip_set : {X : Type 0} (R : X → X → Type 0) (xs ys : List X) (k : ℕ) (x y : X) → AllZip R xs ys → slice_get ys k ≡ Some x → ((a : X) → R a x → R a y) → AllZip R xs (set ys k y)
zip_set R [] [] k x y z at h = tt
zip_set R [] (b ∷ ys) k x y z at h = absurd z
zip_set R (a ∷ xs) [] k x y z at h = absurd z
zip_set R (a ∷ xs) (b ∷ ys) zero x y z at h = (let same : b ≡ x = cc in (h a (subst (R a) same z.0), z.1))
zip_set R (a ∷ xs) (b ∷ ys) (suc k) x y z at h = (z.0, zip_set R xs ys k x y z.1 at h)

set_same : {X : Type 0} (xs : List X) (k : ℕ) (x : X) → slice_get xs k ≡ Some x → set xs k x ≡ xs
set_same [] k x at = refl
set_same (a ∷ xs) zero x at = (let same : a ≡ x = cc in ap (λ y. y ∷ xs) (sym same))
set_same (a ∷ xs) (suc k) x at = ap (λ (l : List _). a ∷ l) (set_same xs k x at)

-- a cell of the node may prune as its cells all do
may_is : (node k : ℕ) (may : Bool) (old now : List CellView) (cell : CellView) → AllPrune node may old → AllZip HasMorePrunes old now → slice_get now k ≡ Some cell → cell.charter.number ≡ node → can_prune (state_of cell) cell.charter.nature ≡ may
may_is node k may old now cell alike z at is =
    let q = beside_at HasMorePrunes old now z k cell at in
    same_may q.0 cell q.2 ∙ all_at_place (λ (c : CellView). c.charter.number ≡ node → can_prune (state_of c) c.charter.nature ≡ may) old k q.0 alike q.1 (ap (λ c. c.number) (sym q.2.charter) ∙ is)

-- ---- the prunes of a node

-- the node did these prunes so far
pub record IsPruning (clock : ClockId) (first keeper : Holder) (all : List BlockStamp) (node : ℕ) (ps : List BlockStamp) (old now : List CellView) : Type 0 where
  pub goes : IsKeeper first keeper
  pub cells : All (IsOpenCell clock keeper.seen all) now
  pub some : AllZip HasMorePrunes old now
  pub done : NodePruned first.seen ps node old now
  pub others : OthersStay node old now

no_acts : (b : Bool) → ◌≡◌ {A = List NodeAct} [] (cond b [] [])
no_acts true = refl
no_acts false = refl

more_acts : (b : Bool) → b ≡ true → (xs ys : List NodeAct) (x : NodeAct) → xs ≡ cond b ys [] → xs ++ x ∷ [] ≡ cond b (ys ++ x ∷ []) []
more_acts true is xs ys x e = ap (λ (l : List NodeAct). l ++ x ∷ []) e
more_acts false is xs ys x e = absurd (cc)

same_acts : (b : Bool) → b ≡ false → (xs ys zs : List NodeAct) → xs ≡ cond b ys [] → xs ≡ cond b zs []
same_acts true is xs ys zs e = absurd (cc)
same_acts false is xs ys zs e = e

pub prunes_none : (clock : ClockId) (first : Holder) (all : List BlockStamp) (node : ℕ) (cells : List CellView) → All (IsOpenCell clock first.seen all) cells → IsPruning clock first first all node [] cells cells
prunes_none clock first all node cells h = record {
  goes = same_keeper first;
  cells = h;
  some = none_more cells;
  done = λ may alike. record { more = []; grown = append_nil (node_journal cells node); later = λ e there. absurd (Contains-none e there); acts = no_acts may };
  others = λ i not. refl;
}

acts_of : (ps : List BlockStamp) (x : BlockStamp) → map act_of (prunings_of (ps ++ x ∷ [])) ≡ map act_of (prunings_of ps) ++ act_of (pruning_of x) ∷ []
acts_of ps x = ap (map act_of) (map-append pruning_of ps (x ∷ [])) ∙ map-append act_of (prunings_of ps) (pruning_of x ∷ [])

weaker : (clock : ClockId) (low high : ℕ) (all : List BlockStamp) (cells : List CellView) → low ≤ high → All (IsOpenCell clock low all) cells → All (IsOpenCell clock high all) cells
weaker clock low high all cells le h = λ k d lt. (let c = h k d lt in record { ticks = c.ticks; may = c.may; blocks = c.blocks; seen = (let s = c.seen in omega (arith, s, le)); below = λ i e at. (let b = c.below i e at in omega (arith, b, le)) })

module _ (clock : ClockId) (first keeper : Holder) (all : List BlockStamp) (node : ℕ) (ps : List BlockStamp) (x : BlockStamp) (old now : List CellView) (k : ℕ) (cell : CellView)
    (at : slice_get now k ≡ Some cell) (is : cell.charter.number ≡ node) (h : IsPruning clock first keeper all node ps old now) where
  abbrev noted : ℕ → NodeEntry
  noted n = entry n (Pruned x.block x.stamp)

  abbrev after_it : ℕ → CellView
  after_it n = with_entry cell n (Pruned x.block x.stamp)

  c : IsOpenCell clock keeper.seen all cell
  c = all_at_place (IsOpenCell clock keeper.seen all) now k cell h.cells at

  under : (n : ℕ) → keeper.seen ≤ n → All (λ c. AllByRecursion (λ e. e.number < n) c.journal) now
  under n le = λ i d lt. recursion_from_All (λ (e : NodeEntry). e.number < n) (get_or now i d).journal (λ j z within. (let b = (h.cells i d lt).below j z within in omega (arith, b, le)))

  grows : (n : ℕ) → keeper.seen ≤ n → node_journal (set now k (after_it n)) node ≡ node_journal now node ++ noted n ∷ []
  grows n le = subst (λ (m : ℕ). node_journal (set now k (after_it n)) m ≡ node_journal now m ++ noted n ∷ []) is (journal_snoc now k cell (after_it n) (noted n) at refl refl (under n le))

  -- one more prune is done
  pruned : (n : ℕ) → keeper.seen ≤ n → can_prune (state_of cell) cell.charter.nature ≡ true → IsPruning clock first (with_seen keeper (n + 1)) all node (ps ++ x ∷ []) old (set now k (with_entry cell n (Pruned x.block x.stamp)))
  pruned n le can = record {
    goes = record { clock = h.goes.clock; number = h.goes.number; drawn = h.goes.drawn; seen = (let s = h.goes.seen in omega (arith, s, le)) };
    cells = set_all (IsOpenCell clock (n + 1) all) now k (after_it n) (weaker clock keeper.seen (n + 1) all now (omega (arith, le)) h.cells) (record {
      ticks = c.ticks;
      may = c.may;
      blocks = c.blocks;
      seen = omega arith;
      below = All-append (λ (e : NodeEntry). e.number < n + 1) cell.journal (noted n ∷ []) (λ i d lt. (let b = c.below i d lt in omega (arith, b, le))) (All-cons (λ (e : NodeEntry). e.number < n + 1) (noted n) [] (omega arith) (All-nil (λ (e : NodeEntry). e.number < n + 1)));
    });
    some = zip_set HasMorePrunes old now k cell (after_it n) h.some at (λ a r. more_then a cell (after_it n) r (one_more cell n x));
    done = λ may alike. (
        let d = h.done may alike in
        record {
          more = d.more ++ noted n ∷ [];
          grown = grows n le ∙ ap (λ (l : List NodeEntry). l ++ noted n ∷ []) d.grown ∙ append_assoc (node_journal old node) d.more (noted n ∷ []);
          later = λ z there. elim (Contains-append_cases d.more (noted n ∷ []) z there) [
            | inl early ↦ d.later z early
            | inr last ↦ subst (λ (w : NodeEntry). first.seen ≤ w.number) (sym (Contains-one z (noted n) last)) (let s = h.goes.seen in omega (arith, s, le))
          ];
          acts =
              map-append (λ (z : NodeEntry). z.act) d.more (noted n ∷ [])
              ∙ more_acts may (sym (may_is node k may old now cell alike h.some at is) ∙ can) (map (λ (z : NodeEntry). z.act) d.more) (map act_of (prunings_of ps)) (act_of (pruning_of x)) d.acts
              ∙ ap (λ (l : List NodeAct). cond may l []) (sym (acts_of ps x));
        }
        );
    others = λ i not. journal_other now k i cell (after_it n) at refl (λ q. not (sym q ∙ is)) ∙ h.others i not;
  }

  -- or the cell skips it
  skipped : can_prune (state_of cell) cell.charter.nature ≡ false → IsPruning clock first keeper all node (ps ++ x ∷ []) old now
  skipped cannot = record {
    goes = h.goes;
    cells = h.cells;
    some = h.some;
    done = λ may alike. (
        let d = h.done may alike in
        let no : may ≡ false = sym (may_is node k may old now cell alike h.some at is) ∙ cannot in
        record { more = d.more; grown = d.grown; later = d.later; acts = same_acts may no (map (λ (z : NodeEntry). z.act) d.more) (map act_of (prunings_of ps)) (map act_of (prunings_of (ps ++ x ∷ []))) d.acts }
        );
    others = h.others;
  }

  not_false : (b : Bool) → (b ≡ false → ⊥) → b ≡ true
  not_false true n = refl
  not_false false n = absurd (n refl)

  pub prune_step : (next : Holder) (new : CellView) (r : Answer)
      → ((n : ℕ) → r ≡ PrunedAt n → (new ≡ with_entry cell n (Pruned x.block x.stamp)) × (keeper.seen ≤ n) × (next ≡ with_seen keeper (n + 1)))
      → (can_prune (state_of cell) cell.charter.nature ≡ false → r ≡ Skipped) → (r ≡ Skipped → can_prune (state_of cell) cell.charter.nature ≡ false)
      → (r ≡ Skipped → (new ≡ cell) × (next ≡ keeper))
      → IsPruning clock first next all node (ps ++ x ∷ []) old (set now k new)
  prune_step next new (PrunedAt n) did skips none same =
      let p = did n refl in
      let can = not_false (can_prune (state_of cell) cell.charter.nature) (λ e. let bad = skips e in cc) in
      let step = pruned n p.1 can in
      subst (λ (q : Holder). IsPruning clock first q all node (ps ++ x ∷ []) old (set now k new)) (sym p.2) (subst (λ (c : CellView). IsPruning clock first (with_seen keeper (n + 1)) all node (ps ++ x ∷ []) old (set now k c)) (sym p.0) step)
  prune_step next new Skipped did skips none same =
      let s = same refl in
      let stays : set now k new ≡ now = ap (set now k) s.0 ∙ set_same now k cell at in
      subst (λ (q : Holder). IsPruning clock first q all node (ps ++ x ∷ []) old (set now k new)) (sym s.1) (subst (IsPruning clock first keeper all node (ps ++ x ∷ []) old) (sym stays) (skipped (none refl)))

-- what stands for a prune that isn't there
abbrev pub none_named : BlockStamp
none_named = record { block = 0; stamp = record { time = 0; client = 0; verifier = [] } }
