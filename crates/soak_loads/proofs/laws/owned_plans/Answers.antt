use Rattle.soak_loads.proofs.PlainPlans.{owners_done, owners_plain}
use Rattle.soak_loads.proofs.laws.owned_plans.Goals as goal

pub returns : goal.returns
returns c = record {
  done = owners_done c.followed_plans.ensures.of_run c.complete_histories.ensures c.steady_records.ensures c.records.ensures.told c.records.ensures.starts;
  plain = owners_plain c.followed_plans.ensures.of_run c.complete_histories.ensures c.steady_records.ensures c.records.ensures.told c.records.ensures.starts c.serial_histories.ensures;
}
