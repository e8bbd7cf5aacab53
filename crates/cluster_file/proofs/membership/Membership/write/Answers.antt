use Rattle.cluster_file.proofs.Printed.{text_written}
use Rattle.cluster_file.proofs.membership.Membership.write.Goals as goal

pub returns : goal.returns
returns c =
    rw (
      c.in_ok-add_newline-4.ensures.ok,
      c.in_ok-add_id.ensures,
      c.in_ok-add_newline-3.ensures.ok,
      c.in_ok-add_node.ensures,
      c.in_ok-add_newline-2.ensures.ok,
      c.in_ok-add_cluster.ensures,
      c.in_ok-add_newline.ensures.ok,
      c.in_ok-add_header.ensures,
    ) (text_written c.args.text.now c.args.self.now)
