use Rattle.std.proofs.Common.{◌≡◌}
use Rattle.quorum_rules.specs.Faults.{numbers}
use Rattle.cluster_file.proofs.Printed.{config_told, only_config}
use Rattle.cluster_file.proofs.reading.config_of.Goals as goal

pub returns-clause-only : goal.returns-clause-only
returns-clause-only c = λ k is e.
    let same : numbers c.args.edition c.number_at.result c.number_at-2.result c.number_at-3.result c.number_at-4.result c.number_at-5.result c.number_at-6.result c.number_at-7.result ≡ k =
    rw (c.number_at.ensures, c.number_at-2.ensures, c.number_at-3.ensures, c.number_at-4.ensures, c.number_at-5.ensures, c.number_at-6.ensures, c.number_at-7.ensures, e) (config_told c.args.edition k is) in
    only_config c.of.result (numbers c.args.edition c.number_at.result c.number_at-2.result c.number_at-3.result c.number_at-4.result c.number_at-5.result c.number_at-6.result c.number_at-7.result) k c.ok.result c.of.ensures.ok c.of.ensures.fault same is.valid c.ok.ensures.value
