-- What held when an operation ended.
use Rattle.std.proofs.Common.{◌≡◌, ◌⊎◌, ℕ, List, subst}
use Rattle.std.specs.declared.option.Option.TheVariants.{Some}
use Rattle.std.specs.List.{Contains}
use Rattle.stamp_order.specs.declared.Stamp.{Stamp}
use Rattle.run_words.specs.declared.outcome.Outcome.TheVariants.{Gave}
use Rattle.protocol.specs.Setting.{Setting, IsValid, first_stamp}
use Rattle.protocol.specs.Operations.{How}
use Rattle.protocol.specs.World.{World, Record, start_world}
use Rattle.protocol.specs.Lines.{Line, Run}
use Rattle.protocol.specs.History.{Entry, IsHistory, HasRead, HasLie}
use Rattle.protocol.specs.History.Kind.{Foreign}
use Rattle.protocol.specs.Facts.{IsComplete}
use Rattle.protocol.specs.Bounds.{IsFewAt}
use Rattle.protocol.specs.Moments.{IsLineAt}
use Rattle.protocol.proofs.lemmas.Theorem.{run_bounded, run_foreign}
use Rattle.protocol.proofs.lemmas.Kept.{run_complete}
use Rattle.protocol.proofs.Endings.{lines_then, run_then, on_then, right_before, had_ended, not_ended}
use Rattle.protocol.proofs.LiedBefore.{lied_before}

module _ (s : Setting) (lines : List (ℕ × Line)) (w : World) (good : IsValid s) (end : ℕ) (before then : World) (at : IsLineAt s lines w end before then) where
  there_then : (r : Record) → Contains w.records r → r.end ≡ Some end → Contains then.records r
  there_then = had_ended s good lines w end before then at

  run_to : Run s (start_world s) (lines_then s good lines w end before then at) then
  run_to = run_then s good lines w end before then at

  pub completed_then : (x : Record) (stamp : Stamp) → Contains w.records x → x.end ≡ Some end → x.stamp ≡ Some stamp → (stamp ≡ first_stamp s) ⊎ IsComplete s then x.block stamp
  completed_then x stamp there ended stamped = run_complete s _ then good run_to x end stamp (there_then x there ended) ended stamped

  pub few_then : (r : Record) (stamp : Stamp) (value : List ℕ) (how : How) (rounds : ℕ) → Contains w.records r → r.outcome ≡ Some (Gave stamp value how rounds) → r.end ≡ Some end → IsFewAt then r.block rounds
  few_then r stamp value how rounds there gave ended = (run_bounded s _ then good run_to).completed r stamp value how rounds (there_then r there ended) gave

  pub lied_then : (h : List Entry) (e : Entry) (value : List ℕ) → IsHistory s w h → Contains h e → e.kind ≡ Foreign → HasRead w.records e.block e.stamp value end → HasLie s before e.block e.stamp
  lied_then h e value hist there kind read =
      let ended = there_then read.read read.there read.ended in
      let lie = run_foreign s _ then good run_to at.rest w h (on_then s good lines w end before then at) hist e there kind value end
      (record { read = read.read; there = ended; of_block = read.of_block; ended = read.ended; how = read.how; rounds = read.rounds; gave = read.gave }) in
      lied_before s good before (right_before s good lines w end before then at).safe end at.on.0 at.line at.on.1 at.on.2 read.read end (rw at.made at ended) read.ended
      (λ k. not_ended s good lines w end before then at read.read k read.ended) e.block e.stamp (subst (λ (x : World). HasLie s x e.block e.stamp) at.made lie)
