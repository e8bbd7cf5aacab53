-- The law's clauses are lemmas of `Seeing`.
use Rattle.protocol.proofs.lemmas.Seeing.{begun-seen, heard_by-seen, length-begun, hearing_full}
use Rattle.protocol.proofs.laws.views.Goals as goal

pub returns : goal.returns
returns a = record {
  begun = λ s op block start work. begun-seen start s op block work;
  heard = λ s w place client start t m reply full. heard_by-seen s w place client start t full m reply;
  full_begun = length-begun;
  full_heard = λ s client node t tag reply full. hearing_full s client t full node tag reply;
}
