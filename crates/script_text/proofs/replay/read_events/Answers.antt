use Rattle.std.proofs.Common.{◌≡◌, ◌≢◌, ◌<◌, ℕ, [], length, refl, sym, ap, subst, ◌∙◌, arith}
use Rattle.std.proofs.lemmas.Grind.{common_steps}
use Rattle.line_forms.proofs.lemmas.Tables.{refusal_here}
use Rattle.event_lines.specs.Lines.{event_text, IsEventLine}
use Rattle.event_lines.specs.declared.line.ReplayLine.{ReplayLine}
use Rattle.script_text.specs.Replays.{replay_script, event_limit}
use Rattle.script_text.specs.Reading.{later_cause}
use Rattle.script_text.proofs.Steps.{event_fault, event_cut, event_read, replay_read, replay_spelled, replay_faultless}
use Rattle.script_text.proofs.replay.read_events.Goals as goal

pub returns-in_default-clause-fault : goal.returns-in_default-clause-fault
returns-in_default-clause-fault c =
    let some : c.loop-rest.rest.now ≢ [] = λ e. grind (arith, common_steps, c.loop-rest-test.ensures, c.loop-rest-test.true, c.is_empty.ensures, e) in
    rw c.refused.ensures (event_cut c.args.text.now c.args.front.config c.args.front.liars c.loop-rest.lines c.loop-rest.rest.now c.loop-rest.number c.loop-rest.invariant some c.in_default.ensures.parts)

pub returns-in-Err-clause-fault : goal.returns-in-Err-clause-fault
returns-in-Err-clause-fault c =
    let config = c.args.front.config in
    let line = c.in-Some.line.now in
    rw c.refused-in-Err.ensures (refusal_here {X = ReplayLine} (λ event. IsEventLine config event × (event_text event ≡ line) × (c.len.result < event_limit config)) replay_script c.args.text.now c.loop-rest.number _ c.in-Err.refusal c.in-Err.ensures
    (λ cause wrong. event_fault c.args.text.now config c.args.front.liars c.loop-rest.lines c.loop-rest.rest.now line c.in-Some.after.now c.loop-rest.number cause c.loop-rest.invariant c.in-Some.ensures.parts
    (ap (λ (n : ℕ). later_cause config n line) (sym c.len.ensures) ∙ wrong)))

pub loop-rest-preserved : goal.loop-rest-preserved
loop-rest-preserved c =
    let config = c.args.front.config in
    let line = c.in-Some.line.now in
    let read = c.in-Ok.ensures in
    let below : length c.loop-rest.lines < event_limit config = subst (λ (n : ℕ). n < event_limit config) c.len.ensures read.1.2 in
    event_read c.args.text.now config c.args.front.liars c.loop-rest.lines c.push.new.self c.loop-rest.rest.now line c.in-Some.after.now c.loop-rest.number _ c.in-Ok.event c.loop-rest.invariant c.in-Some.ensures.parts c.in-Some.ensures.shorter
    (ap (λ (n : ℕ). later_cause config n line) (sym c.len.ensures) ∙ read.0) (read.1.0, read.1.1, below) c.in_ok-push.ensures.ok refl

pub returns-clause-replay : goal.returns-clause-replay
returns-clause-replay c = replay_read c.args.text.now c.args.front.config c.args.front.liars c.loop-rest.lines c.loop-rest.rest.now c.loop-rest.number c.loop-rest.invariant

pub returns-clause-spelled : goal.returns-clause-spelled
returns-clause-spelled c =
    let none : c.loop-rest.rest.now ≡ [] = grind (arith, common_steps, c.loop-rest-test.ensures, c.loop-rest-test.false, c.is_empty.ensures) in
    replay_spelled c.args.text.now c.args.front.config c.args.front.liars c.loop-rest.lines c.loop-rest.rest.now c.loop-rest.number c.loop-rest.invariant none

pub returns-clause-faultless : goal.returns-clause-faultless
returns-clause-faultless c =
    let none : c.loop-rest.rest.now ≡ [] = grind (arith, common_steps, c.loop-rest-test.ensures, c.loop-rest-test.false, c.is_empty.ensures) in
    replay_faultless c.args.text.now c.args.front.config c.args.front.liars c.loop-rest.lines c.loop-rest.rest.now c.loop-rest.number c.loop-rest.invariant none
