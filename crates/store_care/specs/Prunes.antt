-- The prunes that reads allow.
use Rattle.std.specs.Prelude.{List, [], ◌∷◌, ◌++◌, Option}
use Rattle.std.specs.declared.option.Option.TheVariants.{Some}
use Rattle.wire_forms.specs.declared.op.Op.{Op}
use Rattle.protocol.specs.Operations.{Outcome}
use Rattle.protocol.specs.Seen.{block_of}
use Rattle.run_words.specs.declared.outcome.Outcome.TheVariants.{Gave}
use Rattle.version_disk.specs.declared.prune.Prune.{Prune}

-- a block that was read is pruned by the stamp that the read gave, if it gave one
abbrev pub prune_by : Op → Option Outcome → List Prune
prune_by op (Some (Gave stamp value how rounds)) = record { block = block_of op; stamp = stamp } ∷ []
prune_by op _ = []

-- the prunes by reads that ended so
abbrev pub prunes_by : List Op → List (Option Outcome) → List Prune
prunes_by (op ∷ ops) (outcome ∷ outcomes) = prune_by op outcome ++ prunes_by ops outcomes
prunes_by _ _ = []
