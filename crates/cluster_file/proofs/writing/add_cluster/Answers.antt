use Rattle.cluster_file.proofs.Printed.{cluster_written}
use Rattle.cluster_file.proofs.writing.add_cluster.Goals as goal

pub returns : goal.returns
returns c =
    rw (
      c.in_ok-add_field-7.ensures,
      c.blocks-2.ensures.is,
      c.in_ok-add_field-6.ensures,
      c.size.ensures.is,
      c.in_ok-add_field-5.ensures,
      c.m.ensures.is,
      c.in_ok-add_field-4.ensures,
      c.qc.ensures.is,
      c.in_ok-add_field-3.ensures,
      c.b.ensures.is,
      c.in_ok-add_field-2.ensures,
      c.t.ensures.is,
      c.in_ok-add_field.ensures,
      c.n.ensures.is,
      c.in_ok-add.ensures.ok,
    ) (cluster_written c.args.text.now c.args.config.now)
