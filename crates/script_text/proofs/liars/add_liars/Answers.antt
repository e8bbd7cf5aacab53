use Rattle.script_text.proofs.Printed.{ok_also, liars_written}
use Rattle.script_text.proofs.liars.add_liars.Goals as goal

pub returns : goal.returns
returns c =
    ok_also c.add_clients.result c.add_clients.new.text _ _ (liars_written c.args.liars.now c.args.text.now c.add_nodes.new.text c.add_clients.new.text c.in_ok-add_nodes.ensures) c.add_clients.ensures
