use Rattle.std.proofs.Common.{sym, ◌∙◌}
use Rattle.cluster_file.proofs.Printed.{sixteen_is, no_id}
use Rattle.cluster_file.proofs.reading.id_of.Goals as goal

pub returns-in-Some : goal.returns-in-Some
returns-in-Some c =
    sixteen_is c.args.field.now c.in-Some.bytes c.sixteen.result (sym c.in_ok-bytes.ensures ∙ c.in-Some.is) (rw c.as_slice.ensures.value at c.sixteen.ensures)

pub returns-in-None : goal.returns-in-None
returns-in-None c = no_id c.args.field.now (sym c.in_ok-bytes.ensures ∙ c.in-None.is)
