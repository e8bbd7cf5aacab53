use Rattle.std.proofs.Common.{◌≡◌, ◌≢◌, ℕ, List, [], length, arith}
use Rattle.std.proofs.lemmas.Grind.{common_steps}
use Rattle.text_lines.specs.Fields.{IsBytes}
use Rattle.text_lines.specs.Lines.{fields_of}
use Rattle.line_forms.specs.Texts.{IsRefusal}
use Rattle.line_forms.proofs.lemmas.Tables.{err_is, refusal_here}
use Rattle.script_text.specs.Sum.{sum_script, sum_body, value_fields}
use Rattle.script_text.proofs.Sums.{head_at, no_value_line, value_fault, value_line_read, sum_read, sum_faultless, further_cut, further_line}
use Rattle.script_text.proofs.sum.read_sum.Goals as goal

pub returns-in_err-config-clause-fault : goal.returns-in_err-config-clause-fault
returns-in_err-config-clause-fault c =
    err_is (IsRefusal sum_script c.args.text.now) c.from_residual.result c.in_err-config.field-0.0 c.from_residual.ensures.1 (c.in_err-config.ensures.fault sum_body)

pub returns-in_err-line-clause-fault : goal.returns-in_err-line-clause-fault
returns-in_err-line-clause-fault c =
    let text = c.args.text.now in
    let head = head_at text c.in_ok-config.config c.in_ok-config.at c.in_ok-config.ensures.valid c.in_ok-config.ensures.of_scripts (c.in_ok-config.ensures.head sum_body) in
    let fault = c.in_err-line.ensures.fault in
    err_is (IsRefusal sum_script text) c.from_residual-in_err-line.result _ c.from_residual-in_err-line.ensures.1
    (rw fault (no_value_line text c.in_ok-config.config c.in_ok-config.at _ head c.in_err-line.ensures.ends))

pub returns-in-Err-clause-fault : goal.returns-in-Err-clause-fault
returns-in-Err-clause-fault c =
    let text = c.args.text.now in
    let config = c.in_ok-config.config in
    let head = head_at text config c.in_ok-config.at c.in_ok-config.ensures.valid c.in_ok-config.ensures.of_scripts (c.in_ok-config.ensures.head sum_body) in
    let line = c.in_ok-line.line.now in
    let len = c.size.result in
    rw c.refused.ensures (refusal_here {X = List ℕ} (λ v. (value_fields v ≡ fields_of line) × (length v ≡ len) × IsBytes v) sum_script text 3 _ c.in-Err.refusal c.in-Err.ensures
    (λ cause bad. value_fault text config c.in_ok-config.at _ line c.in_ok-line.rest.now len cause head c.in_ok-line.ensures.parts c.size.ensures.is bad))

pub returns-then-is_empty-clause-sum : goal.returns-then-is_empty-clause-sum
returns-then-is_empty-clause-sum c =
    let text = c.args.text.now in
    let config = c.in_ok-config.config in
    let head = head_at text config c.in_ok-config.at c.in_ok-config.ensures.valid c.in_ok-config.ensures.of_scripts (c.in_ok-config.ensures.head sum_body) in
    let read = value_line_read text config c.in_ok-config.at _ c.in_ok-line.line.now c.in_ok-line.rest.now c.in-Ok.value c.size.result head c.in_ok-line.ensures.parts c.size.ensures.is c.in-Ok.ensures in
    let none : c.in_ok-line.rest.now ≡ [] = grind (arith, common_steps, c.if-is_empty.ensures) in
    (read.is, sum_read text config c.in-Ok.value c.in_ok-line.rest.now read.reads none)

pub returns-then-is_empty-clause-faultless : goal.returns-then-is_empty-clause-faultless
returns-then-is_empty-clause-faultless c =
    let text = c.args.text.now in
    let config = c.in_ok-config.config in
    let head = head_at text config c.in_ok-config.at c.in_ok-config.ensures.valid c.in_ok-config.ensures.of_scripts (c.in_ok-config.ensures.head sum_body) in
    let read = value_line_read text config c.in_ok-config.at _ c.in_ok-line.line.now c.in_ok-line.rest.now c.in-Ok.value c.size.result head c.in_ok-line.ensures.parts c.size.ensures.is c.in-Ok.ensures in
    let none : c.in_ok-line.rest.now ≡ [] = grind (arith, common_steps, c.if-is_empty.ensures) in
    sum_faultless text config c.in-Ok.value c.in_ok-line.rest.now read.reads none

pub returns-in_err-needed_line-clause-fault : goal.returns-in_err-needed_line-clause-fault
returns-in_err-needed_line-clause-fault c =
    let text = c.args.text.now in
    let config = c.in_ok-config.config in
    let head = head_at text config c.in_ok-config.at c.in_ok-config.ensures.valid c.in_ok-config.ensures.of_scripts (c.in_ok-config.ensures.head sum_body) in
    let read = value_line_read text config c.in_ok-config.at _ c.in_ok-line.line.now c.in_ok-line.rest.now c.in-Ok.value c.size.result head c.in_ok-line.ensures.parts c.size.ensures.is c.in-Ok.ensures in
    let some : c.in_ok-line.rest.now ≢ [] = λ e. grind (arith, common_steps, c.if-is_empty.ensures, e) in
    let fault = c.in_err-needed_line.ensures.fault in
    err_is (IsRefusal sum_script text) c.from_residual-in_err-needed_line.result _ c.from_residual-in_err-needed_line.ensures.1
    (rw fault (further_cut text config c.in-Ok.value c.in_ok-line.rest.now read.reads some c.in_err-needed_line.ensures.ends))

pub returns-clause-fault : goal.returns-clause-fault
returns-clause-fault c =
    let text = c.args.text.now in
    let config = c.in_ok-config.config in
    let head = head_at text config c.in_ok-config.at c.in_ok-config.ensures.valid c.in_ok-config.ensures.of_scripts (c.in_ok-config.ensures.head sum_body) in
    let read = value_line_read text config c.in_ok-config.at _ c.in_ok-line.line.now c.in_ok-line.rest.now c.in-Ok.value c.size.result head c.in_ok-line.ensures.parts c.size.ensures.is c.in-Ok.ensures in
    rw c.refused-2.ensures (further_line text config c.in-Ok.value c.in_ok-line.rest.now _ c.in_ok-needed_line.field-0.1.now read.reads c.in_ok-needed_line.ensures.parts)
