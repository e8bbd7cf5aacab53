use Rattle.std.proofs.Common.{◌≡◌, ◌<◌, ◌++◌, List, length, get_or, sym, ap, subst, ◌∙◌}
use Rattle.std.proofs.lemmas.List.Elements.{All-from_recursion}
use Rattle.event_lines.specs.Lines.{event_text, IsEventLine}
use Rattle.event_lines.specs.declared.line.ReplayLine.{ReplayLine}
use Rattle.event_lines.proofs.lemmas.Lines.{event_printed}
use Rattle.script_text.proofs.Printed.{event_written}
use Rattle.script_text.proofs.replay.print_replay.Goals as goal

pub add_event-requires : goal.add_event-requires
add_event-requires c =
    let config = c.args.replay.now.config in
    let lines = c.args.replay.now.lines in
    let i = c.loop-line.line-index in
    let item : c.line-item.result ≡ get_or lines i c.line-item.result = c.line-item.is ∙ ap (λ (ls : List ReplayLine). get_or ls i c.line-item.result) c.as_slice-line-items.ensures in
    let lt : i < length lines = subst (λ (ls : List ReplayLine). i < length ls) c.as_slice-line-items.ensures c.loop-line-test.true in
    event_printed config c.line-item.result (subst (IsEventLine config) (sym item) (All-from_recursion (IsEventLine config) lines c.requires.lines i c.line-item.result lt))

pub loop-line-preserved : goal.loop-line-preserved
loop-line-preserved c =
    let config = c.args.replay.now.config in
    let liars = c.args.replay.now.liars in
    let lines = c.args.replay.now.lines in
    let i = c.loop-line.line-index in
    let item : c.line-item.result ≡ get_or lines i c.line-item.result = c.line-item.is ∙ ap (λ (ls : List ReplayLine). get_or ls i c.line-item.result) c.as_slice-line-items.ensures in
    let lt : i < length lines = subst (λ (ls : List ReplayLine). i < length ls) c.as_slice-line-items.ensures c.loop-line-test.true in
    let added = c.in_ok-add_event.ensures ∙ ap (λ (e : ReplayLine). c.loop-line.text ++ event_text e) item in
    event_written config liars lines i c.line-item.result c.loop-line.text _ c.add_newline.new.self lt c.loop-line.invariant added c.in_ok-add_newline.ensures.ok
