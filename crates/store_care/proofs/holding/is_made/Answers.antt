use Rattle.std.proofs.Common.{◌≡◌, Option, Some, Bor, option_copied, sym, subst}
use Rattle.frag_check.specs.declared.summed.Summed.{Summed}
use Rattle.store_care.specs.Holdings.{is_made}
use Rattle.store_care.proofs.Held.{made_test}
use Rattle.store_care.proofs.holding.is_made.Goals as goal

pub returns-in-Some-clause-test : goal.returns-in-Some-clause-test
returns-in-Some-clause-test c =
    let r = c.is_of.result in
    let v = c.args.version.now in
    subst (λ (m : Option (Bor Summed)). r ≡ is_made c.args.seat (option_copied m) v) (sym c.in-Some.is)
    (made_test c.args.seat (Some c.in-Some.summed.now) v r c.is_of.ensures)
