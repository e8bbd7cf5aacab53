-- What the journals of cells are.
use Rattle.std.proofs.Common.{◌≡◌, ℕ, ◌+◌, ◌<◌, List, [], ◌∷◌, refl, sym, ap, subst, ◌∙◌, inl, inr, arith}
use Rattle.std.specs.Prelude.{All, filter, slice_get}
use Rattle.std.specs.declared.option.Option.TheVariants.{None, Some}
use Rattle.std.specs.List.{AllByRecursion, Contains}
use Rattle.std.proofs.lemmas.List.Elements.{recursion_from_All}
use Rattle.std.proofs.lemmas.Option.{slice_get_cases}
use Rattle.quorum_rules.specs.Limits.{Numbers}
use Rattle.protocol.specs.Report.{Ascend}
use Rattle.journals.specs.declared.node.Nature.{Nature}
use Rattle.journals.specs.declared.node.NodeEntry.{NodeEntry}
use Rattle.journals.specs.Acts.{NodeState, new_state, NodeKept}
use Rattle.locked_nodes.specs.declared.charter.Charter.{Charter}
use Rattle.locked_nodes.specs.Cells.{CellView, Rises, numbers, first_state, state_of, IsOfShard}
use Rattle.locked_nodes.specs.Shards.{is_of_shard, AreShards, AreJoined, OneCell, SeveralCells, SeveralCalm}
use Rattle.locked_nodes.proofs.lemmas.Growing.{cell_rises}
use Rattle.locked_nodes.proofs.Sharding.{IsPart, AreAlike, IsCalm, IsPlain, parts_kept, all_plain, plain_calm}

rises_above : (low : ℕ) (xs : List ℕ) (high m : ℕ) → m < low → Rises low xs high → AllByRecursion (λ y. m < y) xs
rises_above low [] high m lt rises = tt
rises_above low (x ∷ xs) high m lt rises = (omega (arith, lt, rises.0), rises_above (x + 1) xs high m (omega (arith, lt, rises.0)) rises.1)

pub rises_ascend : (low : ℕ) (xs : List ℕ) (high : ℕ) → Rises low xs high → Ascend xs
rises_ascend low [] high rises = tt
rises_ascend low (x ∷ xs) high rises = (rises_above (x + 1) xs high x (omega arith) rises.1, rises_ascend (x + 1) xs high rises.1)

pub one_cell : OneCell
one_cell cell kept = record {
  ascends = rises_ascend 0 (numbers cell.journal) cell.pass.seen (cell_rises cell.charter (state_of cell) cell.journal cell.pass kept);
  goes = kept.kept;
}

-- the same journal is kept for a node of the same numbers
kept_of : (c : Charter) (config : Numbers) (number : ℕ) (nature : Nature) (es : List NodeEntry) → c.config ≡ config → c.number ≡ number → c.nature ≡ nature → c.crash_after ≡ None
    → NodeKept c.nature (first_state c) es → NodeKept nature (new_state config number None) es
kept_of c config number nature es cluster node conduct lasting kept =
    let first : first_state c ≡ new_state config number None = rw (cluster, node, lasting) refl in
    subst (λ s. NodeKept nature s es) first (subst (λ (n : Nature). NodeKept n (first_state c) es) conduct kept)

module _ (config : Numbers) (number : ℕ) (nature : Nature) (shards : ℕ) (cells : List CellView) (es : List NodeEntry) (several : 1 < shards) (are : AreShards config number nature shards cells) (joined : AreJoined cells es) where
  abbrev start : NodeState
  start = new_state config number None

  calm : IsCalm start
  calm = record { up = refl; lasting = refl; clear = refl }

  alike : (i : ℕ) → AreAlike shards i start start
  alike i = record { calm = (calm, calm); nodes = record { config = refl; number = refl; count = refl; versions = λ block own. refl } }

  part_of : (i : ℕ) (cell : CellView) → slice_get cells i ≡ Some cell → IsPart nature shards several start start i (filter (is_of_shard i shards) es)
  part_of i cell there =
      let of = are.each i cell there in
      let own : filter (is_of_shard i shards) es ≡ cell.journal = ap (λ n. filter (is_of_shard i n) es) (sym are.count) ∙ joined.each i cell there in
      let share : All (λ e. IsOfShard i shards e.act) cell.journal =
      subst (λ (n : ℕ). All (λ e. IsOfShard i n e.act) cell.journal) of.share.0 (subst (λ (k : ℕ). All (λ e. IsOfShard k cell.charter.shards e.act) cell.journal) of.share.1 of.kept.share) in
      subst (IsPart nature shards several start start i) (sym own) (record {
        alike = alike i;
        kept = kept_of cell.charter config number nature cell.journal of.cluster of.node of.conduct.0 of.conduct.1 of.kept.kept;
        share = share;
      })

  part_at : (i : ℕ) → i < shards → IsPart nature shards several start start i (filter (is_of_shard i shards) es)
  part_at i below = elim (slice_get_cases cells i).1 [
    | inl there ↦ part_of i there.0 there.2
    | inr past ↦ absurd (omega (arith, below, past.0, are.count))
  ]

pub several_cells : SeveralCells
several_cells config number nature shards cells es several are joined = record {
  ascends = joined.ascends;
  goes = parts_kept nature shards several es (new_state config number None) (λ i. new_state config number None) (part_at config number nature shards cells es several are joined);
}

pub several_calm : SeveralCalm
several_calm config number nature shards es several from =
    let start : NodeState = new_state config number None in
    let calm = plain_calm start es plain (record { up = refl; lasting = refl; clear = refl }) in
    (calm.up, calm.clear)
  where
    plain : (e : NodeEntry) → Contains es e → IsPlain e.act
    plain e there =
        let q = from e there in
        let c = q.cell in
        let of = q.serves in
        let share : AllByRecursion (λ e. IsOfShard c.charter.shard shards e.act) c.journal =
        recursion_from_All (λ e. IsOfShard c.charter.shard shards e.act) c.journal (subst (λ (n : ℕ). All (λ e. IsOfShard c.charter.shard n e.act) c.journal) of.share.0 of.kept.share) in
        all_plain nature shards c.charter.shard several (new_state config number None) c.journal (record { up = refl; lasting = refl; clear = refl })
        (kept_of c.charter config number nature c.journal of.cluster of.node of.conduct.0 of.conduct.1 of.kept.kept) share e q.stands
