use Rattle.std.proofs.Common.{◌≡◌, ◌<◌, ◌^◌, List, length, Option, Some, None, sym, ap, subst, ◌∙◌, arith}
use Rattle.text_lines.specs.Lines.{fields_of}
use Rattle.line_forms.specs.Texts.{IsRefusal}
use Rattle.line_forms.proofs.lemmas.Tables.{refusal_here, err_is}
use Rattle.history_making.specs.declared.entry.Entry.{Entry}
use Rattle.history_making.specs.declared.entry.Spent.{Spent}
use Rattle.history_making.specs.declared.entry.Counts.{Counts}
use Rattle.history_book.specs.declared.reading.ReportLine.{ReportLine}
use Rattle.history_book.specs.ReportTexts.{line_cause, report}
use Rattle.history_book.specs.ReportLines.{line_fields, MayStand, IsToldBy, IsAdded}
use Rattle.history_book.proofs.ReadLines.{IsRead, IsEnded, IsNext, book_of, next_line, end_line, line_wrong, text_faultless, text_is, is_book, few_entries}
use Rattle.history_book.proofs.reading.read.Goals as goal

pub returns-in-Err-clause-fault : goal.returns-in-Err-clause-fault
returns-in-Err-clause-fault c =
    let text = c.args.text.now in
    let entries = c.loop-spent.entries in
    let spent = c.loop-spent.spent in
    let line = c.in_ok-line.line.now in
    let fields = fields_of line in
    let es = c.as_slice.result.now in
    let xs = c.as_slice-in-loop-spent.result.now in
    rw c.refused.ensures (refusal_here {X = ReportLine} (λ (told : ReportLine). (line_fields told ≡ fields) × MayStand es xs told × IsToldBy fields told) report text c.loop-spent.number (line_cause es xs fields) c.in-Err.refusal c.in-Err.ensures
    (λ cause bad. line_wrong text entries spent c.loop-spent.rest.now line c.in_ok-line.after.now c.loop-spent.number cause c.loop-spent.invariant.told c.loop-spent.invariant.number c.in_ok-line.ensures.parts
    (ap (λ (e : List Entry). line_cause e spent fields) (sym c.as_slice.ensures) ∙ ap (λ (x : List Spent). line_cause es x fields) (sym c.as_slice-in-loop-spent.ensures) ∙ bad)))

pub returns-in_err-nothing_after-clause-fault : goal.returns-in_err-nothing_after-clause-fault
returns-in_err-nothing_after-clause-fault c =
    let text = c.args.text.now in
    let entries = c.loop-spent.entries in
    let spent = c.loop-spent.spent in
    let line = c.in_ok-line.line.now in
    let told = c.in-Ok.told in
    let counts = c.in-Some.counts in
    let es = c.add_line.new.entries in
    let xs = c.add_line.new.spent in
    let read : IsRead told entries spent line = subst (λ (e : List Entry). IsRead told e spent line) c.as_slice.ensures (subst (λ (x : List Spent). IsRead told c.as_slice.result.now x line) c.as_slice-in-loop-spent.ensures c.in-Ok.ensures) in
    let added : IsAdded told entries spent es xs (Some counts) = subst (λ (o : Option Counts). IsAdded told entries spent es xs o) c.in-Some.is c.in_ok-counts.ensures in
    let ended : IsEnded text entries spent c.in_ok-line.after.now es xs counts = end_line text entries spent c.loop-spent.rest.now line c.in_ok-line.after.now told es xs counts c.loop-spent.invariant.told c.in_ok-line.ensures.parts read added in
    err_is (IsRefusal report text) c.from_residual-in_err-nothing_after.result _ c.from_residual-in_err-nothing_after.ensures.1
    (c.in_err-nothing_after.ensures.err text ended.0 ended.1.reads ended.1.has_end_line (let a = ended.2 in let b = c.loop-spent.invariant.number in omega arith))

pub new-requires : goal.new-requires
new-requires c =
    let text = c.args.text.now in
    let entries = c.loop-spent.entries in
    let spent = c.loop-spent.spent in
    let line = c.in_ok-line.line.now in
    let told = c.in-Ok.told in
    let counts = c.in-Some.counts in
    let es = c.add_line.new.entries in
    let xs = c.add_line.new.spent in
    let read : IsRead told entries spent line = subst (λ (e : List Entry). IsRead told e spent line) c.as_slice.ensures (subst (λ (x : List Spent). IsRead told c.as_slice.result.now x line) c.as_slice-in-loop-spent.ensures c.in-Ok.ensures) in
    let added : IsAdded told entries spent es xs (Some counts) = subst (λ (o : Option Counts). IsAdded told entries spent es xs o) c.in-Some.is c.in_ok-counts.ensures in
    let ended : IsEnded text entries spent c.in_ok-line.after.now es xs counts = end_line text entries spent c.loop-spent.rest.now line c.in_ok-line.after.now told es xs counts c.loop-spent.invariant.told c.in_ok-line.ensures.parts read added in
    let few : length es < 2 ^ 32 = omega (arith, few_entries entries spent, ap length ended.3, c.loop-spent.invariant.number, c.loop-spent.invariant.left, c.requires) in
    is_book text (book_of es xs counts) ended.0 c.in_ok-line.after.now ended.1 few

pub returns-in-Some-clause-report : goal.returns-in-Some-clause-report
returns-in-Some-clause-report c =
    let text = c.args.text.now in
    let entries = c.loop-spent.entries in
    let spent = c.loop-spent.spent in
    let line = c.in_ok-line.line.now in
    let told = c.in-Ok.told in
    let counts = c.in-Some.counts in
    let es = c.add_line.new.entries in
    let xs = c.add_line.new.spent in
    let read : IsRead told entries spent line = subst (λ (e : List Entry). IsRead told e spent line) c.as_slice.ensures (subst (λ (x : List Spent). IsRead told c.as_slice.result.now x line) c.as_slice-in-loop-spent.ensures c.in-Ok.ensures) in
    let added : IsAdded told entries spent es xs (Some counts) = subst (λ (o : Option Counts). IsAdded told entries spent es xs o) c.in-Some.is c.in_ok-counts.ensures in
    let ended : IsEnded text entries spent c.in_ok-line.after.now es xs counts = end_line text entries spent c.loop-spent.rest.now line c.in_ok-line.after.now told es xs counts c.loop-spent.invariant.told c.in_ok-line.ensures.parts read added in
    rw c.new.ensures (ended.1.is, text_is text (book_of es xs counts) ended.0 c.in_ok-line.after.now ended.1 c.in_ok-nothing_after.ensures.ok)

pub returns-in-Some-clause-faultless : goal.returns-in-Some-clause-faultless
returns-in-Some-clause-faultless c =
    let text = c.args.text.now in
    let entries = c.loop-spent.entries in
    let spent = c.loop-spent.spent in
    let line = c.in_ok-line.line.now in
    let told = c.in-Ok.told in
    let counts = c.in-Some.counts in
    let es = c.add_line.new.entries in
    let xs = c.add_line.new.spent in
    let read : IsRead told entries spent line = subst (λ (e : List Entry). IsRead told e spent line) c.as_slice.ensures (subst (λ (x : List Spent). IsRead told c.as_slice.result.now x line) c.as_slice-in-loop-spent.ensures c.in-Ok.ensures) in
    let added : IsAdded told entries spent es xs (Some counts) = subst (λ (o : Option Counts). IsAdded told entries spent es xs o) c.in-Some.is c.in_ok-counts.ensures in
    let ended : IsEnded text entries spent c.in_ok-line.after.now es xs counts = end_line text entries spent c.loop-spent.rest.now line c.in_ok-line.after.now told es xs counts c.loop-spent.invariant.told c.in_ok-line.ensures.parts read added in
    text_faultless text (book_of es xs counts) ended.0 c.in_ok-line.after.now ended.1 c.in_ok-nothing_after.ensures.ok

pub loop-spent-preserved : goal.loop-spent-preserved
loop-spent-preserved c =
    let text = c.args.text.now in
    let entries = c.loop-spent.entries in
    let spent = c.loop-spent.spent in
    let line = c.in_ok-line.line.now in
    let told = c.in-Ok.told in
    let es = c.add_line.new.entries in
    let xs = c.add_line.new.spent in
    let read : IsRead told entries spent line = subst (λ (e : List Entry). IsRead told e spent line) c.as_slice.ensures (subst (λ (x : List Spent). IsRead told c.as_slice.result.now x line) c.as_slice-in-loop-spent.ensures c.in-Ok.ensures) in
    let added : IsAdded told entries spent es xs None = subst (λ (o : Option Counts). IsAdded told entries spent es xs o) c.in_default.is c.in_ok-counts.ensures in
    let next : IsNext text entries spent c.in_ok-line.after.now es xs = next_line text entries spent c.loop-spent.rest.now line c.in_ok-line.after.now told es xs c.loop-spent.invariant.told c.in_ok-line.ensures.parts read added in
    let more = next.1 in
    let shorter = c.in_ok-line.ensures.shorter in
    record {
      told = next.0;
      number = omega (arith, more, c.loop-spent.invariant.number);
      left = omega (arith, shorter, c.loop-spent.invariant.left);
    }
