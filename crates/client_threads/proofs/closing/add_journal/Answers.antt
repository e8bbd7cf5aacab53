use Rattle.client_threads.proofs.Adding.{joined_again}
use Rattle.client_threads.proofs.closing.add_journal.Goals as goal

pub returns : goal.returns
returns c =
    joined_again c.args.nodes.now c.replace-before.new.self c.replace-empty.new.self c.args.node c.replace-before.result c.args.journal c.new.result c.in_ok-join.field-0
    c.replace-before.ensures.items c.replace-before.ensures.replaced c.in_ok-join.ensures c.replace-empty.ensures.items
