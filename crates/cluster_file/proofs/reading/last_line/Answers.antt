use Rattle.std.proofs.Common.{◌≡◌, [], true, refl}
use Rattle.cluster_file.proofs.Printed.{no_rest}
use Rattle.cluster_file.proofs.reading.last_line.Goals as goal

pub returns-else-is_empty-clause-err : goal.returns-else-is_empty-clause-err
returns-else-is_empty-clause-err c =
    (refl, λ e. let none : c.args.rest.now ≡ [] = no_rest c.args.rest.now e in let is : c.is_empty.result ≡ true = rw none at c.is_empty.ensures in let not = c.if-is_empty.ensures in absurd cc)
