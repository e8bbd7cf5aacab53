-- What was made of the values that writes are about to encode, each handed to its own write.
use Rattle.std.proofs.Common.{◌≡◌, ℕ, List, [], ◌∷◌, map, Option, refl}
use Rattle.std.specs.declared.option.Option.TheVariants.{None, Some}
use Rattle.std.specs.Prelude.{All, IfSome, IsSomeAnd, slice_index_or}
use Rattle.std.specs.List.{AllZip}
use Rattle.quorum_rules.specs.Limits.{Numbers}
use Rattle.protocol.specs.Operations.{value_of}
use Rattle.protocol.specs.Operations.Stage.{Times}
use Rattle.protocol.specs.Seen.{SeenTask}
use Rattle.operation_core.specs.Clients.{ClientView}
use Rattle.frag_check.specs.Summing.{summed_of}
use Rattle.frag_check.specs.declared.summed.Summed.{Summed}
use Rattle.write_core.specs.Made.{IsMadeOf}
use Rattle.batch_clients.specs.declared.turn.Turn.{Turn}
use Rattle.batch_clients.specs.declared.turn.Turn.TheVariants.{Hears, Asks, Over, Starved}
use Rattle.batch_clients.specs.Turns.{MayTake}
use Rattle.batch_clients.specs.Encoding.{WritesValue, WritesAt, IsMadeBy, IsMadeAt}

module _ (c : Numbers) where
  made_for : (client : ClientView) → client.config ≡ c → (value : List ℕ) (made : Summed) → IsMadeOf c value made → (task : Option SeenTask)
      → IsSomeAnd task (λ t. (t.stage ≡ Times) × (value ≡ value_of t.work)) → IfSome task (λ t. IsMadeOf client.config (value_of t.work) made)
  made_for client own value made is None h = absurd h
  made_for client own value made is (Some t) h = rw (own, ← h.1) is

  made_by : (turn : Turn) (value : List ℕ) (made : Summed) → MayTake c turn → WritesValue turn value → IsMadeOf c value made → IsMadeBy turn made
  made_by (Hears id client replies) value made may writes is = made_for client may.0 value made is client.seen.task writes
  made_by (Asks id client mail) value made may writes is = tt
  made_by (Over run) value made may writes is = tt
  made_by Starved value made may writes is = tt

  -- what is made of the values, one after the other, is that of the writes at these places
  pub made_at : (turns : List Turn) → All (MayTake c) turns → (places : List ℕ) (values : List (List ℕ)) → AllZip (WritesAt turns) places values
      → AllZip (IsMadeAt turns) places (map (summed_of c.n c.m) values)
  made_at turns may [] [] h = tt
  made_at turns may [] (v ∷ values) h = absurd h
  made_at turns may (p ∷ places) [] h = absurd h
  made_at turns may (p ∷ places) (v ∷ values) h = (
    (h.0.0, λ d. made_by (slice_index_or turns p d) v (summed_of c.n c.m v) (may p d h.0.0) (h.0.1 d) (record { shares = refl; sum = refl })),
    made_at turns may places values h.1,
  )
