use Rattle.std.proofs.Common.{◌≡◌, false, ◌∷◌, ap, sym}
use Rattle.std.specs.Prelude.{codes}
use Rattle.std.specs.Str.{bytes_eq}
use Rattle.text_lines.specs.Lines.{texts}
use Rattle.event_lines.proofs.Words.{client_or_none}
use Rattle.event_lines.proofs.event.has_crash_word.Goals as goal

pub returns-else-eq : goal.returns-else-eq
returns-else-eq c = λ numbers.
    let what = c.in-Some.what.now.now in
    let rest = texts c.in-Some.field-0-1.now in
    let split : texts c.args.fields.now ≡ what ∷ rest = ap texts c.in-Some.ensures.cases.0 in
    let other : bytes_eq what (codes "node") ≡ false = rw c.as_slice.ensures at (sym c.if-eq.ensures) in
    let same : c.eq-else-eq.result ≡ bytes_eq what (codes "client") = rw c.as_slice-else-eq.ensures at c.eq-else-eq.ensures in
    rw split (client_or_none numbers what rest c.eq-else-eq.result other same)
