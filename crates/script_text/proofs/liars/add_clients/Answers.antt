use Rattle.std.proofs.Common.{◌≡◌, ◌≤◌, ◌<◌, ◌++◌, ℕ, List, [], ◌∷◌, sym, refl, ap, ◌∙◌, arith}
use Rattle.std.specs.Prelude.{codes, decimal}
use Rattle.std.specs.List.{AllByRecursion}
use Rattle.std.proofs.lemmas.List.Elements.{recursion_from_All}
use Rattle.wire_forms.specs.Liars.{IsClientNumber}
use Rattle.script_text.specs.Replays.{liar_line}
use Rattle.script_text.specs.declared.liars.Declared.TheVariants.{Client}
use Rattle.script_text.proofs.lemmas.Ascending.{below_none, below_all}
use Rattle.script_text.proofs.Printed.{written, none_written, all_written, number_skipped, pieces_written}
use Rattle.script_text.proofs.liars.add_clients.Goals as goal
use Rattle.script_text.proofs.liars.add_clients.Goals.{then-client+in_ok-add+in_ok-add_number+in_ok-add_newline, else-client}

abbrev line : ℕ → List ℕ
line k = liar_line (Client k)

from_one : (ks : List ℕ) → AllByRecursion IsClientNumber ks → AllByRecursion (λ k. 1 ≤ k) ks
from_one [] h = tt
from_one (k ∷ ks) h = (h.0.0, from_one ks h.1)

to_last : (ks : List ℕ) → AllByRecursion IsClientNumber ks → AllByRecursion (λ k. k < 1001) ks
to_last [] h = tt
to_last (k ∷ ks) h = let le : k ≤ 1000 = h.0.1 in (omega arith, to_last ks h.1)

pub loop-client-init : goal.loop-client-init
loop-client-init c =
    let ks = c.args.liars.now.clients in
    none_written line c.args.text.now ks 1 (below_none 1 ks (from_one ks (recursion_from_All IsClientNumber ks c.requires.may_lie.clients)))

pub loop-client-preserved : goal.loop-client-preserved
loop-client-preserved c =
    let old = c.args.text.now in
    let ks = c.args.liars.now.clients in
    let k = c.loop-client.client in
    elim c.if-client.branch [
      | then-client+in_ok-add+in_ok-add_number+in_ok-add_newline w ↦
          pieces_written line old ks (codes "liar client ") (decimal k) c.loop-client.text w.add.new.self w.add_number.new.self _ k c.requires.ascending.1 (sym c.client.ensures ∙ w.if-client.true) refl c.loop-client.invariant
          w.in_ok-add.ensures.ok (w.in_ok-add_number.ensures.ok ∙ ap (λ (n : ℕ). w.add.new.self ++ decimal n) w.from.ensures) (w.text-is ∙ w.in_ok-add_newline.ensures.ok)
      | else-client w ↦ w.text-is ∙ c.loop-client.invariant ∙ number_skipped line old ks k c.requires.ascending.1 (sym c.client.ensures ∙ w.if-client.false)
    ]

pub returns : goal.returns
returns c =
    let old = c.args.text.now in
    let ks = c.args.liars.now.clients in
    let high = c.loop-client-test.false in
    let low = c.loop-client.auto in
    let end : c.loop-client.client ≡ 1001 = omega arith in
    c.loop-client.invariant ∙ ap (λ (k : ℕ). written line old k ks) end ∙ all_written line old ks 1001 (below_all 1001 ks (to_last ks (recursion_from_All IsClientNumber ks c.requires.may_lie.clients)))
