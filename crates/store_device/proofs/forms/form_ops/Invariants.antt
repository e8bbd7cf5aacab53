-- Those that were passed may begin.
use Rattle.std.proofs.Common.{ℕ, ◌<◌, get_or}
use Rattle.wire_forms.specs.declared.op.Op.{Op}
use Rattle.store_device.specs.Going.{MayBegin}
use Rattle.store_device.proofs.forms.form_ops.Given as goal

abbrev pub invariant-loop-op : goal.invariant-loop-op
invariant-loop-op l = (k : ℕ) (d : Op) → k < l.op-index → MayBegin l.config (get_or l.ops k d)
