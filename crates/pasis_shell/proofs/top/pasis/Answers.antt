use Rattle.std.proofs.Common.{refl, subst}
use Rattle.command_texts.specs.Words.{texts, AreOfForm}
use Rattle.command_texts.specs.declared.words.Form.{Form}
use Rattle.command_texts.specs.declared.words.Form.TheVariants.{Text}
use Rattle.pasis_shell.specs.Calls.{call_of}
use Rattle.pasis_shell.specs.Forms.{HasCalled}
use Rattle.pasis_shell.proofs.Called.{called}
use Rattle.pasis_shell.proofs.top.pasis.Goals as goal

-- `alone` left the source and the sink as they were
pub returns-in-Some-Text : goal.returns-in-Some-Text
returns-in-Some-Text g c =
    let words = texts c.args.words.now in
    let left = c.in_default.ensures in
    let of : AreOfForm words (Text c.in-Some-Text.command) = subst (λ (f : Form). AreOfForm words f) c.in-Some-Text.field-0-is c.in-Some-Text.ensures.some in
    let here = called words (call_of g.S.Source g.K.Sink c.alone.new.source c.in_threads.new.source c.alone.new.sink c.in_threads.new.sink) c.in_threads.result (Text c.in-Some-Text.command) of
    c.in_threads.ensures.does c.in_threads.ensures.faults in
    record {
      called = subst (λ s. HasCalled words c.in_threads.result (call_of g.S.Source g.K.Sink s c.in_threads.new.source c.args.sink.now c.in_threads.new.sink)) (left.untouched_source refl)
          (subst (λ k. HasCalled words c.in_threads.result (call_of g.S.Source g.K.Sink c.alone.new.source c.in_threads.new.source k c.in_threads.new.sink)) (left.untouched_sink refl) here);
    }
