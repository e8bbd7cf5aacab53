-- Lemmas of `Lasting`.
use Rattle.client_desks.proofs.Lasting.{same_desk, goes_on, own_later, call_later}
use Rattle.client_desks.proofs.laws.desks_go_on.Goals as goal

pub returns : goal.returns
returns c = record { same = same_desk; on = goes_on; own = own_later; call = call_later }
