use Rattle.std.proofs.Common.{◌≡◌, take, drop, map}
use Rattle.std.specs.List.{list_any}
use Rattle.text_lines.specs.Lines.{texts}
use Rattle.line_forms.specs.Heads.{u32_of, is_no_u32}
use Rattle.line_forms.proofs.cluster.read_numbers.Given as goal

abbrev pub invariant-loop-i : goal.invariant-loop-i
invariant-loop-i l = record {
  good : list_any is_no_u32 (texts l.fields) ≡ list_any is_no_u32 (texts (drop l.i l.fields));
  read : take l.i l.numbers ≡ map u32_of (texts (take l.i l.fields));
}
