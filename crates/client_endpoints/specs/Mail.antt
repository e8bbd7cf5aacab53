-- What is known of an ask or an answer when it is taken, by the place of the inbox in which it lay.
use Rattle.std.specs.Prelude.{◌≡◌, ◌+◌, slice_get}
use Rattle.std.specs.declared.option.Option.TheVariants.{Some}
use Rattle.std.specs.declared.result.Result.TheVariants.{Ok}
use Rattle.locked_nodes.specs.declared.answers.Told.{Told}
use Rattle.locked_nodes.specs.Cells.{IsShare, IsWhole, number_of}
use Rattle.client_endpoints.specs.declared.asked.Asked.{Asked}
use Rattle.client_endpoints.specs.declared.asked.NodePlace.{NodePlace}
use Rattle.client_endpoints.specs.declared.answered.Answered.{Answered}
use Rattle.client_endpoints.specs.declared.answered.ClientPlace.{ClientPlace}

-- the cell of the place's shard serves the ask, to which it may come this way; the client of the seat asks
pub record IsAskAt (place : NodePlace) (a : Asked) : Type 0 where
  pub clock : a.note.clock ≡ place.clock.value
  pub node : a.ask.node ≡ place.cell_shard.node
  pub share : IsShare place.cell_shard.shard place.cell_shard.shards a.ask.body
  pub whole : IsWhole place.cell_shard.shards a.way
  pub client : slice_get place.clients.value a.seat ≡ Some a.ask.client

-- the place's client asked; the note has seen what was told, and nothing after it
pub record IsAnswerTo (place : ClientPlace) (a : Answered) : Type 0 where
  pub clock : a.note.clock ≡ place.clock.value
  pub client : a.ask.client ≡ place.client
  pub seen : (t : Told) → a.told ≡ Ok t → a.note.seen ≡ number_of t + 1
