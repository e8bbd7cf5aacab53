-- Why there is no picture.
use Rattle.std.proofs.Common.{◌≡◌, ℕ, ◌+◌, List, length, refl, inr}
use Rattle.std.specs.Prelude.{Option}
use Rattle.quorum_rules.specs.Limits.{Numbers}
use Rattle.wire_forms.specs.Liars.{Liars}
use Rattle.event_lines.specs.declared.line.ReplayLine.{ReplayLine}
use Rattle.line_forms.specs.declared.cause.Cause.{Cause}
use Rattle.line_forms.specs.declared.refusal.ScriptRefusal.{ScriptRefusal}
use Rattle.line_forms.specs.declared.refusal.ScriptRefusal.TheVariants as scripts
use Rattle.script_run.specs.Performing.{StopsAt}
use Rattle.command_texts.specs.Replays.{cluster_of, IsScript}
use Rattle.command_texts.specs.Statuses.{refusal_of}
use Rattle.command_texts.specs.Texts.{Refuses, GivesAll}
use Rattle.command_texts.specs.declared.refusal.Refusal.{Refusal}
use Rattle.command_texts.specs.declared.refusal.Refusal.TheVariants as refusals
use Rattle.command_texts.specs.declared.words.Command.TheVariants.{Replay}
use Rattle.run_pictures.specs.Shown.{HasTooMany}
use Rattle.run_pictures.specs.Statuses.{status_of}
use Rattle.run_pictures.specs.Calls.{StopsFor}
use Rattle.run_pictures.specs.declared.status.PictureRefusal.{PictureRefusal}
use Rattle.run_pictures.specs.declared.status.PictureRefusal.TheVariants as pictures

-- why a script is refused whose lines can't all take place
pub refuses : (input : List ℕ) (c : Numbers) (liars : Liars) (lines : List ReplayLine) (script : IsScript input c liars lines) (r : ScriptRefusal)
    → ((line : ℕ) (cause : Cause) → r ≡ scripts.Fault (record { line = line; cause = cause }) → (done : ℕ) × StopsAt (cluster_of c liars) c lines done cause × (line ≡ 2 + length liars.nodes + length liars.clients + done + 1))
    → Refuses Replay input (refusal_of r)
refuses input c liars lines script scripts.NoMemory h = tt
refuses input c liars lines script (scripts.Fault fault) h =
    let at = h fault.line fault.cause refl in
    inr (record { config = c; liars = liars; lines = lines; script = script; done = at.0; stopped = at.1; line = at.2 })

-- a refusal is told as it is
pub stops : (left left_after : Option (List ℕ)) (input : List ℕ) → GivesAll left left_after input → (refusal : PictureRefusal)
    → ((r : Refusal) → refusal ≡ pictures.Replay r → Refuses Replay input r) → ((count : ℕ) → refusal ≡ pictures.TooManyLines count → HasTooMany input count)
    → StopsFor (status_of refusal) left left_after
stops left left_after input given (pictures.Replay refusals.NoMemory) h k = tt
stops left left_after input given (pictures.Replay (refusals.BadScript fault)) h k = (input, given, h (refusals.BadScript fault) refl)
stops left left_after input given (pictures.Replay (refusals.ClockFull drawn)) h k = absurd (h (refusals.ClockFull drawn) refl).0
stops left left_after input given (pictures.TooManyLines count) h k = (input, given, k count refl)
