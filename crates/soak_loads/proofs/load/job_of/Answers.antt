use Rattle.std.proofs.Common.{ℕ, ◌+◌, ◌%◌, List, sym, ap, ◌∙◌}
use Rattle.wire_forms.specs.declared.op.Op.{Op}
use Rattle.wire_forms.specs.declared.op.Op.TheVariants.{Write}
use Rattle.plan_words.specs.declared.job.Job.TheVariants.{Block}
use Rattle.soak_loads.specs.MadePlans.{block_of}
use Rattle.soak_loads.proofs.Blocks.{written, read}
use Rattle.soak_loads.proofs.load.job_of.Goals as goal
use Rattle.soak_loads.proofs.load.job_of.Goals.{then-word-eq1+in_ok-value_from, else-word-eq1}

pub returns : goal.returns
returns c =
    let block = block_of c.args.clients c.args.j c.args.word in
    ap (λ (op : Op). Block (1 + c.args.j % c.args.clients) op)
    (elim c.if-word-eq1.branch [
      | then-word-eq1+in_ok-value_from w ↦ w.op-is ∙ ap (λ (v : List ℕ). Write block v) w.in_ok-value_from.ensures ∙ sym (written c.args.clients c.args.j c.args.word w.if-word-eq1.true)
      | else-word-eq1 w ↦ w.op-is ∙ sym (read c.args.clients c.args.j c.args.word w.if-word-eq1.false)
    ])
