-- Where a stamp is held, later reads return its value, or what was written later, also where operations are cut off before one is acknowledged.
use Rattle.std.proofs.Common.{ℕ, suc, Bool, true, false, eqb, List, [], ◌∷◌, Option, subst, inl, inr}
use Rattle.std.specs.Prelude.{if◌then◌else◌}
use Rattle.std.specs.declared.option.Option.TheVariants.{None, Some}
use Rattle.std.specs.List.{AllByRecursion}
use Rattle.quorum_rules.specs.Limits.{Numbers}
use Rattle.wire_forms.specs.declared.op.Op.{Op}
use Rattle.protocol.specs.Instance.{setting, nobody}
use Rattle.protocol.specs.Laws.{InEachCluster}
use Rattle.protocol.specs.Operations.{Work, Outcome}
use Rattle.protocol.specs.Seen.{block_of, work_of}
use Rattle.version_disk.specs.declared.prune.Prune.{Prune}
use Rattle.block_phases.specs.Executions.{StampedValue}
use Rattle.block_turns.specs.Turns.{Turn as BlockTurn}
use Rattle.block_turns.specs.Turns.Turn.{Pruned as PrunedThere}
use Rattle.block_turns.specs.Lives.{IsLife as IsBlockLife}
use Rattle.block_turns.specs.Strings.{NoClash}
use Rattle.block_turns.specs.Settled.{RebuildsNone, Acknowledges, SendsNoneAway, HasOperation, AllUntil, HeldLivesForget}
use Rattle.store_device.specs.Lives.{Turn, Moment, turn_of, batch_on, prune_on, turn_on, life_on}
use Rattle.store_device.specs.Lives.Turn.{Performed, Pruned, Changed, Gone, Back, Lost, Damaged, Failed, Renewed}
use Rattle.store_device.specs.Settled.{IsOfCall, turns_on, HeldBlocksForget, CallsStayHeld}
use Rattle.store_device.proofs.LifeLaws.{calm}
use Rattle.store_device.proofs.LifeSettled.{whole_after, life_wrote, parted_on, read_there, held_there}

module _ (c : Numbers) where
  pub held_forget : InEachCluster HeldLivesForget → HeldBlocksForget c
  held_forget forget valid before after lived block there apart stamp held stays =
      let all = forget c nobody nobody (calm c valid) block (life_on block before) (life_on block after) stamp
      (subst (IsBlockLife (setting c) block) (parted_on block before after) (lived.each block there))
      (subst (NoClash (setting c)) (parted_on block before after) apart)
      (held_there c block there before stamp held)
      stays in (
        all.0,
        all.1,
        λ k rounds at given how was.
            let m = read_there c after (whole_after c before after lived.whole) block k rounds at given how was in
            elim (all.2 m.0 m.1 rounds at given how m.2 m.3) [
              | inl same ↦ inl same
              | inr w ↦ inr (life_wrote block given after w.0 w.1 w.2)
            ],
      )

-- ---- what calls do to a block

-- the turn rebuilds no node, and sends none out of reach
abbrev IsCalm : BlockTurn → Type 0
IsCalm turn = RebuildsNone turn × SendsNoneAway turn

turn_calm : (client : ℕ) (work : Work) (outcome : Option Outcome) (stored : Option StampedValue) → IsCalm (turn_of client work outcome stored)
turn_calm client work None stored = (tt, tt)
turn_calm client work (Some outcome) stored = (tt, tt)

batch_calm : (block client : ℕ) (ops : List Op) (outcomes : List (Option Outcome)) (stored : List (Option StampedValue))
    → IsCalm (batch_on block client ops outcomes stored)
batch_calm block client [] outcomes stored = (tt, tt)
batch_calm block client (op ∷ ops) [] stored = (tt, tt)
batch_calm block client (op ∷ ops) (outcome ∷ outcomes) [] = (tt, tt)
batch_calm block client (op ∷ ops) (outcome ∷ outcomes) (value ∷ stored) =
    at (eqb (block_of op) block) (batch_calm block (suc client) ops outcomes stored)
  where
    at : (b : Bool) → IsCalm (batch_on block (suc client) ops outcomes stored)
        → IsCalm (if b then turn_of client (work_of op) outcome value else batch_on block (suc client) ops outcomes stored)
    at true rest = turn_calm client (work_of op) outcome value
    at false rest = rest

prunes_calm : (block : ℕ) (prunes : List Prune) → IsCalm (prune_on block prunes)
prunes_calm block [] = (tt, tt)
prunes_calm block (p ∷ prunes) = at (eqb p.block block) (prunes_calm block prunes)
  where
    at : (b : Bool) → IsCalm (prune_on block prunes) → IsCalm (if b then PrunedThere p.stamp else prune_on block prunes)
    at true rest = (tt, tt)
    at false rest = rest

calls_calm : (block : ℕ) (turn : Turn) → IsOfCall turn → IsCalm (turn_on block turn)
calls_calm block (Performed ops outcomes stored) is = batch_calm block 1 ops outcomes stored
calls_calm block (Pruned prunes) is = prunes_calm block prunes
calls_calm block Changed is = absurd is
calls_calm block (Gone node) is = absurd is
calls_calm block (Back node) is = absurd is
calls_calm block (Lost node) is = absurd is
calls_calm block (Damaged other node) is = absurd is
calls_calm block (Failed other node) is = absurd is
calls_calm block (Renewed other node) is = absurd is

all_calm : (block : ℕ) (turns : List Moment) → AllByRecursion (λ (m : Moment). IsOfCall m.turn) turns
    → AllUntil RebuildsNone Acknowledges (turns_on block turns) × AllUntil SendsNoneAway HasOperation (turns_on block turns)
all_calm block [] all = (tt, tt)
all_calm block (m ∷ turns) all =
    let one = calls_calm block m.turn all.0 in
    let rest = all_calm block turns all.1 in
    (inr (one.0, rest.0), inr (one.1, rest.1))

pub calls_stay_held : (c : Numbers) → CallsStayHeld c
calls_stay_held c turns all block stamp b =
    let calm = all_calm block turns all in
    record { rebuilt_late = calm.0; asked_low = inr calm.1 }
