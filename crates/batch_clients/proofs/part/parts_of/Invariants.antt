use Rattle.std.proofs.Common.{◌≡◌, ◌++◌, length}
use Rattle.std.specs.Prelude.{All}
use Rattle.std.specs.List.{flat_map}
use Rattle.batch_clients.specs.Turns.{MayTake}
use Rattle.batch_clients.specs.Sharing.{turns_of, IsPart}
use Rattle.batch_clients.proofs.part.parts_of.Given as goal

abbrev pub invariant-parts : goal.invariant-parts
invariant-parts l = record {
  whole : flat_map turns_of l.parts.items ++ l.rest.items ≡ l.fn.turns.items;
  parts : All IsPart l.parts.items;
  rest : All (MayTake l.config) l.rest.items;
}

abbrev pub decreases-parts : goal.decreases-parts
decreases-parts l = length l.rest.items
