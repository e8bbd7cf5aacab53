use Rattle.std.proofs.Common.{◌≡◌, true, refl, subst, ap, arith}
use Rattle.quorum_rules.specs.Limits.{is_of_scripts}
use Rattle.quorum_rules.proofs.lemmas.FaultLaws.{script_blocks_at_most}
use Rattle.command_texts.specs.Words.{texts, AreOfForm}
use Rattle.command_texts.specs.declared.words.Form.{Form}
use Rattle.command_texts.specs.declared.words.Form.TheVariants.{Text, Session}
use Rattle.pasis_shell.specs.Calls.{call_of}
use Rattle.pasis_shell.proofs.Called.{called, called_badly, asked}
use Rattle.pasis_shell.proofs.top.alone.Goals as goal

pub serve_device-requires : goal.serve_device-requires
serve_device-requires g c =
    let of : AreOfForm (texts c.args.words.now) (Session c.in-Session.config) = subst (λ (f : Form). AreOfForm (texts c.args.words.now) f) c.in-Session.is c.in-Some.ensures.some in
    let named : is_of_scripts c.in-Session.config.edition ≡ true = ap is_of_scripts of.edition in
    omega (arith, script_blocks_at_most c.in-Session.config of.valid named)

pub returns-in_default-clause-called : goal.returns-in_default-clause-called
returns-in_default-clause-called g c = called_badly (texts c.args.words.now) (call_of g.S.Source g.K.Sink c.args.source.now c.args.source.now c.args.sink.now c.args.sink.now) c.in_default.ensures.none refl refl

pub returns-in_default-clause-none : goal.returns-in_default-clause-none
returns-in_default-clause-none g c = (λ e. absurd cc, λ ask. absurd (asked (texts c.args.words.now) ask c.in_default.ensures.none))

pub returns-in-Session-clause-called : goal.returns-in-Session-clause-called
returns-in-Session-clause-called g c =
    let of : AreOfForm (texts c.args.words.now) (Session c.in-Session.config) = subst (λ (f : Form). AreOfForm (texts c.args.words.now) f) c.in-Session.is c.in-Some.ensures.some in
    called (texts c.args.words.now) (call_of g.S.Source g.K.Sink c.args.source.now c.serve_device.new.source c.args.sink.now c.serve_device.new.sink)
    c.serve_device.result (Session c.in-Session.config) of c.serve_device.ensures.does c.serve_device.ensures.faults

pub returns-else-runs_threads-clause-called : goal.returns-else-runs_threads-clause-called
returns-else-runs_threads-clause-called g c =
    let of : AreOfForm (texts c.args.words.now) (Text c.in-Text.command) = subst (λ (f : Form). AreOfForm (texts c.args.words.now) f) c.in-Text.is c.in-Some.ensures.some in
    called (texts c.args.words.now) (call_of g.S.Source g.K.Sink c.args.source.now c.without_threads.new.source c.args.sink.now c.without_threads.new.sink)
    c.without_threads.result (Text c.in-Text.command) of c.without_threads.ensures.does c.without_threads.ensures.faults
