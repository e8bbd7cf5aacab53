use Rattle.batch_clients.proofs.Handing.{made_at}
use Rattle.batch_clients.proofs.encoding.encode_together.Goals as goal

pub hand_over-requires : goal.hand_over-requires
hand_over-requires c =
    let waiting = c.in_ok-waiting.waiting in
    rw (c.as_slice-2.ensures.value, c.in_ok-made.ensures, c.as_slice.ensures.value, c.code_of.ensures.code)
    (made_at c.args.config.now c.args.turns.now c.requires waiting.places.items waiting.values.items c.in_ok-waiting.ensures)
