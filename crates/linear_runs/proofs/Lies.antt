-- What was lied before a read ended is lied by now.
use Rattle.std.proofs.Common.{◌≡◌, ℕ, List, ◌∷◌}
use Rattle.std.specs.List.{Contains}
use Rattle.std.proofs.lemmas.List.Elements.{Contains-append_left}
use Rattle.protocol.specs.Setting.{Setting}
use Rattle.protocol.specs.World.{World}
use Rattle.protocol.specs.Lines.{Line, IsRun}
use Rattle.protocol.specs.History.{Entry, IsHistory, HasRead, HasLie}
use Rattle.protocol.specs.History.Kind.{Foreign}
use Rattle.protocol.specs.Laws.{EndsAreAtLines, ForeignWritesWereLied, RunsExtendPool}

module _ (s : Setting) (w : World) (lines : List (ℕ × Line)) (run : IsRun s lines w) (at_ends : EndsAreAtLines s w) (lied : ForeignWritesWereLied s w) (pools : (v : World) → RunsExtendPool s v) where
  pub lied_now : (h : List Entry) → IsHistory s w h → (e : Entry) (value : List ℕ) (end : ℕ) → Contains h e → e.kind ≡ Foreign → HasRead w.records e.block e.stamp value end → HasLie s w e.block e.stamp
  lied_now h hist e value end there kind read =
      let k = at_ends lines read.read end run read.there read.ended in
      let lie = lied lines k.0 k.1 h e value end hist there kind read k.2 in
      let more = pools k.0 ((end, k.2.line) ∷ k.2.rest) w k.2.on in
      record { message = lie.message; there = rw more.1 (Contains-append_left k.0.pool more.0 lie.message lie.there); lies = lie.lies; version = lie.version; asks = lie.asks; stamped = lie.stamped }
