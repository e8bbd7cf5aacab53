use Rattle.std.proofs.Common.{◌≡◌, None, refl}
use Rattle.line_forms.proofs.lemmas.Tables.{refusal_here}
use Rattle.script_text.specs.Replays.{liar_line, IsDeclarable, replay_script}
use Rattle.script_text.specs.Reading.{again_cause}
use Rattle.script_text.specs.declared.liars.Declared.{Declared}
use Rattle.script_text.proofs.Steps.{liars_begin, liars_end, liar_fault, liar_read}
use Rattle.script_text.proofs.liars.read_liars.Goals as goal

pub loop-line-init : goal.loop-line-init
loop-line-init c =
    liars_begin c.args.text.now c.args.config c.none-liars.result c.args.at c.requires.valid c.requires.of_scripts c.none-liars.ensures.nodes c.none-liars.ensures.clients c.requires.within c.requires.head

pub returns-in-Err-clause-fault : goal.returns-in-Err-clause-fault
returns-in-Err-clause-fault c =
    let h = c.loop-line.invariant in
    let line = c.in-Some.line.now in
    rw c.refused.ensures (refusal_here {X = Declared} (λ d. (liar_line d ≡ line) × IsDeclarable c.args.config d × (again_cause c.args.config c.loop-line.liars d ≡ None)) replay_script c.args.text.now c.loop-line.number _ c.in-Err.refusal (c.in-Err.ensures h.declared h.are)
    (λ cause wrong. liar_fault c.args.text.now c.args.config c.loop-line.liars c.loop-line.rest.now line c.in-Some.after.now c.loop-line.number cause h c.in-Some.ensures.parts wrong))

pub loop-line-preserved : goal.loop-line-preserved
loop-line-preserved c =
    let h = c.loop-line.invariant in
    let read = c.in-Ok.ensures h.declared h.are in
    liar_read c.args.text.now c.args.config c.loop-line.liars c.declare.new.liars c.loop-line.rest.now c.in-Some.line.now c.in-Some.after.now c.loop-line.number _ c.in-Ok.declared h c.in-Some.ensures.parts c.in-Some.ensures.shorter
    read.0 read.1 c.in_ok-declare.ensures.ok (c.in_ok-declare.ensures.ascending h.ascending) refl

pub returns-clause-front : goal.returns-clause-front
returns-clause-front c = liars_end c.args.text.now _ c.loop-line.rest.now refl c.loop-line.invariant c.in_default.ensures.none
