-- What a store does is on each block a turn of the block's life.
use Rattle.std.proofs.Common.{◌≡◌, ◌≢◌, ◌⊎◌, ℕ, suc, ◌<◌, Bool, true, false, eqb, List, [], ◌∷◌, ◌++◌, length, Option, refl, sym, ap, subst, ◌∙◌, inl, inr, arith}
use Rattle.std.specs.Prelude.{if◌then◌else◌}
use Rattle.std.specs.declared.option.Option.TheVariants.{None, Some}
use Rattle.std.specs.List.{AllByRecursion}
use Rattle.std.proofs.lemmas.Bool.{eqb-true, eq-eqb}
use Rattle.std.proofs.lemmas.List.{map-append, get_or-replicate}
use Rattle.quorum_rules.specs.Limits.{Numbers}
use Rattle.stamp_order.specs.declared.Stamp.{Stamp}
use Rattle.wire_forms.specs.declared.op.Op.{Op}
use Rattle.protocol.specs.Messages.{Version}
use Rattle.protocol.specs.Nodes.{first_version, pruned, outlives}
use Rattle.protocol.specs.Instance.{setting}
use Rattle.protocol.specs.World.{Fits}
use Rattle.protocol.specs.Operations.{Work, Outcome}
use Rattle.protocol.specs.Seen.{block_of, work_of}
use Rattle.node_core.specs.Seen.{versions_in}
use Rattle.version_disk.specs.declared.prune.Prune.{Prune}
use Rattle.block_phases.specs.Phases.{Keeps}
use Rattle.block_phases.specs.Executions.{StampedValue}
use Rattle.block_phases.proofs.lemmas.Executing.{comes_fewer, given_up_fewer}
use Rattle.block_phases.proofs.lemmas.Alike.{completed_alike, given_up_alike}
use Rattle.block_turns.specs.Turns.{Standing, Turn as BlockTurn, Moment as BlockMoment, away_in, first_standing, standing_after, standing_at, kept_at, with_one}
use Rattle.block_turns.specs.Turns.Turn.{Pruned as PrunedThere}
use Rattle.block_turns.specs.Lives.{Takes as TakesThere, IsLife as IsBlockLife, KeepsSome, first_kept}
use Rattle.block_turns.proofs.lemmas.EachSetting.{one_turn_more, prune_in_part, prune_undone}
use Rattle.store_device.specs.Stores.{Nodes}
use Rattle.store_device.specs.Told.{IsDone, AreDone, kept_of}
use Rattle.store_device.specs.Lives.{Moment, turn_of, batch_on, prune_on, turn_on, moment_on, life_on, nodes_after, nodes_of, first_nodes, IsWhole, IsLife, standing_on}
use Rattle.store_device.specs.Calls.{Acknowledged, IsPruned, IsStampOf, given_by, given_on}

-- ---- a life and one moment more

pub nodes_append : (first : Nodes) (life more : List Moment) → nodes_after first (life ++ more) ≡ nodes_after (nodes_after first life) more
nodes_append first [] more = refl
nodes_append first (m ∷ life) more = nodes_append m.nodes life more

pub standing_append : (b : Standing) (life more : List BlockMoment) → standing_at b (life ++ more) ≡ standing_at (standing_at b life) more
standing_append b [] more = refl
standing_append b (m ∷ life) more = standing_append (standing_after b m.turn) life more

pub all_more : {X : Type 0} (P : X → Type 0) (xs ys : List X) → AllByRecursion P xs → AllByRecursion P ys → AllByRecursion P (xs ++ ys)
all_more P [] ys h k = k
all_more P (x ∷ xs) ys h k = (h.0, all_more P xs ys h.1 k)

module _ (c : Numbers) (block : ℕ) where
  pub standing_more : (life more : List Moment)
      → standing_on c block (life ++ more) ≡ standing_at (standing_on c block life) (life_on block more)
  standing_more life more =
      ap (standing_at (first_standing (setting c))) (map-append (moment_on block) life more)
      ∙ standing_append (first_standing (setting c)) (life_on block life) (life_on block more)

  -- each node keeps this of the block
  abbrev pub KeptOf : Keeps → Nodes → Type 0
  KeptOf kept nodes = (i : ℕ) → i < c.n → kept i ≡ versions_in (nodes i) block

  -- what each node keeps of the block at the end of a life
  abbrev pub kept_end : List Moment → Keeps
  kept_end life = kept_at (first_kept (setting c)) (life_on block life)

  kept_then : (kept : Keeps) (nodes : Nodes) (life : List Moment) → KeptOf kept nodes
      → KeptOf (kept_at kept (life_on block life)) (nodes_after nodes life)
  kept_then kept nodes [] same = same
  kept_then kept nodes (m ∷ life) same = kept_then (kept_of m.nodes block) m.nodes life (λ i l. refl)

  pub kept_is : block < c.blocks → (life : List Moment) → KeptOf (kept_end life) (nodes_of c life)
  kept_is there life =
      kept_then (first_kept (setting c)) (first_nodes c) life
      (λ i l. sym (get_or-replicate c.blocks block (first_version (setting c) i ∷ []) [] there))

-- the life goes on by a turn that on each block may come next
pub one_more : (c : Numbers) (life : List Moment) (m : Moment) → IsLife c life → IsWhole c m.turn
    → ((block : ℕ) → block < c.blocks
    → TakesThere (setting c) block (standing_on c block life) (kept_end c block life) (turn_on block m.turn) (kept_of m.nodes block))
    → IsLife c (life ++ m ∷ [])
one_more c life m is whole takes = record {
  whole = all_more (λ (x : Moment). IsWhole c x.turn) life (m ∷ []) is.whole (whole, tt);
  each = λ block there.
      subst (IsBlockLife (setting c) block) (sym (map-append (moment_on block) life (m ∷ [])))
      (one_turn_more (setting c) block (life_on block life) (moment_on block m) (is.each block there) (takes block there));
}

module _ (c : Numbers) (block : ℕ) where
  -- what the turn leads to, where nodes kept this
  abbrev pub TakesOn : Standing → Keeps → BlockTurn → Keeps → Type 0
  TakesOn b old turn new = TakesThere (setting c) block b old turn new

  -- ---- a batch

  module _ (b : Standing) (away : ℕ → Bool) (fewer : (i : ℕ) → away i ≡ false → away_in b i ≡ false) where
    one : (client : ℕ) (work : Work) (outcome : Option Outcome) (stored : Option StampedValue) (op : Op) (kept : Keeps) (old new : Nodes)
        → KeptOf c block kept old → work_of op ≡ work → block_of op ≡ block → Fits (setting c) work
        → IsDone c away client op outcome stored old new → TakesOn b kept (turn_of client work outcome stored) (kept_of new block)
    one client work None stored op kept old new same is on fits done =
        let s = setting c in (
          fits,
          given_up_fewer s away (away_in b) fewer block client work stored kept (kept_of new block)
              (given_up_alike s away block client work stored (kept_of old block) kept (kept_of new block) (kept_of new block) same
              (λ i l. refl) (at work is block on)),
        )
      where
        at : (w : Work) → work_of op ≡ w → (x : ℕ) → block_of op ≡ x
            → Rattle.block_phases.specs.Executions.IsGivenUp (setting c) away x client w stored (kept_of old x) (kept_of new x)
        at w e x f =
            subst (λ (w : Work). Rattle.block_phases.specs.Executions.IsGivenUp (setting c) away x client w stored (kept_of old x) (kept_of new x)) e
            (subst (λ (x : ℕ). Rattle.block_phases.specs.Executions.IsGivenUp (setting c) away x client (work_of op) stored (kept_of old x)
            (kept_of new x)) f done)
    one client work (Some outcome) stored op kept old new same is on fits done =
        let s = setting c in (
          fits,
          comes_fewer s away (away_in b) fewer block client work outcome kept (kept_of new block)
              (completed_alike s away block client work outcome (kept_of old block) kept (kept_of new block) (kept_of new block) same
              (λ i l. refl) (at work is block on)),
        )
      where
        at : (w : Work) → work_of op ≡ w → (x : ℕ) → block_of op ≡ x
            → Rattle.block_phases.specs.Executions.IsCompleted (setting c) away x client w outcome (kept_of old x) (kept_of new x)
        at w e x f =
            subst (λ (w : Work). Rattle.block_phases.specs.Executions.IsCompleted (setting c) away x client w outcome (kept_of old x) (kept_of new x)) e
            (subst (λ (x : ℕ). Rattle.block_phases.specs.Executions.IsCompleted (setting c) away x client (work_of op) outcome (kept_of old x)
            (kept_of new x)) f done)

    abbrev CanBe : Op → Type 0
    CanBe op = (block_of op < c.blocks) × Fits (setting c) (work_of op)

    pub batch : (client : ℕ) (ops : List Op) (outcomes : List (Option Outcome)) (stored : List (Option StampedValue)) (kept : Keeps)
        (old new : Nodes) → KeptOf c block kept old → AllByRecursion CanBe ops → AreDone c away client ops outcomes stored old new
        → (AllByRecursion (λ op. block_of op ≢ block) ops → (i : ℕ) → i < c.n → versions_in (new i) block ≡ versions_in (old i) block)
        → TakesOn b kept (batch_on block client ops outcomes stored) (kept_of new block)
    batch client [] [] [] kept old new same fit done stay = λ i l. inr (inr (stay tt i l ∙ sym (same i l)))
    batch client [] [] (value ∷ stored) kept old new same fit done stay = absurd done
    batch client [] (outcome ∷ outcomes) stored kept old new same fit done stay = absurd done
    batch client (op ∷ ops) [] stored kept old new same fit done stay = absurd done
    batch client (op ∷ ops) (outcome ∷ outcomes) [] kept old new same fit done stay = absurd done
    batch client (op ∷ ops) (outcome ∷ outcomes) (value ∷ stored) kept old new same fit done stay =
        at (eqb (block_of op) block) refl
        (λ apart. batch (suc client) ops outcomes stored kept old new same fit.1 done.1 (λ all. stay (apart, all)))
      where
        at : (t : Bool) → eqb (block_of op) block ≡ t
            → (block_of op ≢ block → TakesOn b kept (batch_on block (suc client) ops outcomes stored) (kept_of new block))
            → TakesOn b kept (if t then turn_of client (work_of op) outcome value else batch_on block (suc client) ops outcomes stored)
            (kept_of new block)
        at true e rest =
            one client (work_of op) outcome value op kept old new same refl (eqb-true (block_of op) block e) fit.0.1 done.0
        at false e rest = rest (λ q. let k = eq-eqb (block_of op) block q in cc)

  -- ---- prunes

  module _ (b : Standing) (given : Acknowledged) (known : b.ended ≡ given block) where
    keeps_some : (stamp : Stamp) (old new : List Version) → (new ≡ old) ⊎ (new ≡ pruned (setting c) stamp old)
        → KeepsSome (setting c) stamp old new
    keeps_some stamp old new (inl same) = subst (KeepsSome (setting c) stamp old) (sym same) (prune_undone (setting c) stamp old)
    keeps_some stamp old new (inr less) =
        subst (KeepsSome (setting c) stamp old) (sym less)
        (prune_in_part (setting c) stamp old (outlives (setting c) stamp old) (λ v there lives. lives))

    pub prune : (prunes : List Prune) (kept : Keeps) (old new : Nodes) → KeptOf c block kept old
        → AllByRecursion (λ p. IsStampOf (given p.block) p.stamp) prunes → AllByRecursion (λ p. IsPruned c p old new) prunes
        → (AllByRecursion (λ p. p.block ≢ block) prunes → (i : ℕ) → i < c.n → versions_in (new i) block ≡ versions_in (old i) block)
        → TakesOn b kept (prune_on block prunes) (kept_of new block)
    prune [] kept old new same may are stay = λ i l. inr (inr (stay tt i l ∙ sym (same i l)))
    prune (p ∷ prunes) kept old new same may are stay =
        at (eqb p.block block) refl (λ apart. prune prunes kept old new same may.1 are.1 (λ all. stay (apart, all)))
      where
        here : (x : ℕ) → p.block ≡ x → KeptOf c x kept old → IsStampOf (given x) p.stamp
            × ((i : ℕ) → i < c.n → KeepsSome (setting c) p.stamp (kept i) (kept_of new x i))
        here x e keeps =
            subst (λ (x : ℕ). KeptOf c x kept old → IsStampOf (given x) p.stamp
            × ((i : ℕ) → i < c.n → KeepsSome (setting c) p.stamp (kept i) (kept_of new x i))) e
            (λ k. (
              may.0,
              λ i l. subst (λ (vs : List Version). KeepsSome (setting c) p.stamp vs (kept_of new p.block i)) (sym (k i l))
                  (keeps_some p.stamp (kept_of old p.block i) (kept_of new p.block i) (are.0 i l)),
            )) keeps

        at : (t : Bool) → eqb p.block block ≡ t → (p.block ≢ block → TakesOn b kept (prune_on block prunes) (kept_of new block))
            → TakesOn b kept (if t then PrunedThere p.stamp else prune_on block prunes) (kept_of new block)
        at true e rest =
            let h = here block (eqb-true p.block block e) same in
            let x : IsStampOf b.ended p.stamp = subst (λ (xs : List StampedValue). IsStampOf xs p.stamp) (sym known) h.0 in
            (x.0, x.1, x.2, h.1)
        at false e rest = rest (λ q. let k = eq-eqb p.block block q in cc)

  -- ---- what is acknowledged then

  given_one : (b : Standing) (client : ℕ) (op : Op) (outcome : Option Outcome) (stored : Option StampedValue)
      → (standing_after b (turn_of client (work_of op) outcome stored)).ended ≡ with_one (given_by op outcome) b.ended
  given_one b client op None stored = refl
  given_one b client op (Some outcome) stored = refl

  pub given_batch : (b : Standing) (client : ℕ) (ops : List Op) (outcomes : List (Option Outcome)) (stored : List (Option StampedValue))
      → length outcomes ≡ length ops → length stored ≡ length ops
      → (standing_after b (batch_on block client ops outcomes stored)).ended ≡ given_on block ops outcomes b.ended
  given_batch b client [] outcomes stored long wide = refl
  given_batch b client (op ∷ ops) [] stored long wide = absurd (omega (arith, long))
  given_batch b client (op ∷ ops) (outcome ∷ outcomes) [] long wide = absurd (omega (arith, wide))
  given_batch b client (op ∷ ops) (outcome ∷ outcomes) (value ∷ stored) long wide =
      at (eqb (block_of op) block) (given_batch b (suc client) ops outcomes stored (omega (arith, long)) (omega (arith, wide)))
    where
      at : (t : Bool) → (standing_after b (batch_on block (suc client) ops outcomes stored)).ended ≡ given_on block ops outcomes b.ended
          → (standing_after b (if t then turn_of client (work_of op) outcome value else batch_on block (suc client) ops outcomes stored)).ended
          ≡ (if t then with_one (given_by op outcome) b.ended else given_on block ops outcomes b.ended)
      at true rest = given_one b client op outcome value
      at false rest = rest

  pub given_prune : (b : Standing) (prunes : List Prune) → (standing_after b (prune_on block prunes)).ended ≡ b.ended
  given_prune b [] = refl
  given_prune b (p ∷ prunes) = at (eqb p.block block) (given_prune b prunes)
    where
      at : (t : Bool) → (standing_after b (prune_on block prunes)).ended ≡ b.ended
          → (standing_after b (if t then PrunedThere p.stamp else prune_on block prunes)).ended ≡ b.ended
      at true rest = refl
      at false rest = rest

  -- and who is away stays so

  away_one : (b : Standing) (client i : ℕ) (work : Work) (outcome : Option Outcome) (stored : Option StampedValue)
      → away_in (standing_after b (turn_of client work outcome stored)) i ≡ away_in b i
  away_one b client i work None stored = refl
  away_one b client i work (Some outcome) stored = refl

  pub away_batch : (b : Standing) (client i : ℕ) (ops : List Op) (outcomes : List (Option Outcome)) (stored : List (Option StampedValue))
      → away_in (standing_after b (batch_on block client ops outcomes stored)) i ≡ away_in b i
  away_batch b client i [] outcomes stored = refl
  away_batch b client i (op ∷ ops) [] stored = refl
  away_batch b client i (op ∷ ops) (outcome ∷ outcomes) [] = refl
  away_batch b client i (op ∷ ops) (outcome ∷ outcomes) (value ∷ stored) =
      at (eqb (block_of op) block) (away_batch b (suc client) i ops outcomes stored)
    where
      at : (t : Bool) → away_in (standing_after b (batch_on block (suc client) ops outcomes stored)) i ≡ away_in b i
          → away_in (standing_after b (if t then turn_of client (work_of op) outcome value else batch_on block (suc client) ops outcomes stored)) i
          ≡ away_in b i
      at true rest = away_one b client i (work_of op) outcome value
      at false rest = rest

  pub away_prune : (b : Standing) (i : ℕ) (prunes : List Prune) → away_in (standing_after b (prune_on block prunes)) i ≡ away_in b i
  away_prune b i [] = refl
  away_prune b i (p ∷ prunes) = at (eqb p.block block) (away_prune b i prunes)
    where
      at : (t : Bool) → away_in (standing_after b (prune_on block prunes)) i ≡ away_in b i
          → away_in (standing_after b (if t then PrunedThere p.stamp else prune_on block prunes)) i ≡ away_in b i
      at true rest = refl
      at false rest = rest

pub lengths : (c : Numbers) (away : ℕ → Bool) (client : ℕ) (ops : List Op) (outcomes : List (Option Outcome)) (stored : List (Option StampedValue))
    (old new : Nodes) → AreDone c away client ops outcomes stored old new → (length outcomes ≡ length ops) × (length stored ≡ length ops)
lengths c away client [] [] [] old new done = (refl, refl)
lengths c away client [] [] (value ∷ stored) old new done = absurd done
lengths c away client [] (outcome ∷ outcomes) stored old new done = absurd done
lengths c away client (op ∷ ops) [] stored old new done = absurd done
lengths c away client (op ∷ ops) (outcome ∷ outcomes) [] old new done = absurd done
lengths c away client (op ∷ ops) (outcome ∷ outcomes) (value ∷ stored) old new done =
    let r = lengths c away (suc client) ops outcomes stored old new done.1 in
    let a = r.0 in
    let b = r.1 in
    (omega (arith, a), omega (arith, b))
