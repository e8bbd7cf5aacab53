use Rattle.soak_loads.proofs.Whole.{serial_plain}
use Rattle.soak_loads.proofs.laws.serial_histories.Goals as goal

pub returns : goal.returns
returns c =
    serial_plain c.cluster.ensures c.safety.ensures.legal c.one_history.ensures.one c.records.ensures.told c.completion.ensures.now c.origins.ensures.accepted c.order.ensures.writes_above
    c.order.ensures.reads_up c.bounds.ensures.times c.records.ensures.starts c.marks.ensures.one c.marks.ensures.from_one
