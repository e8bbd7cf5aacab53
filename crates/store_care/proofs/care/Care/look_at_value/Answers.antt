use Rattle.std.proofs.Common.{◌≡◌, option_copied, ap, ◌∙◌}
use Rattle.quorum_rules.specs.Limits.{Numbers}
use Rattle.store_care.specs.Given.{given_by}
use Rattle.store_care.specs.Holdings.{made_of}
use Rattle.store_care.proofs.Block.{looked_at}
use Rattle.store_care.proofs.Looks.{on_ok}
use Rattle.store_care.proofs.care.Care.look_at_value.Goals as goal

pub returns-clause-looked : goal.returns-clause-looked
returns-clause-looked g c =
    let store = c.args.store.now in
    let stamp = c.args.stamp.now in
    let gave = given_by stamp c.args.value.now in
    let made = option_copied c.as_ref-made.result in
    let of : made ≡ made_of store.config gave = c.as_ref-made.ensures.value ∙ c.in_ok-summed.ensures ∙ ap (λ (n : Numbers). made_of n gave) c.config.ensures in
    on_ok c.note.result
    (λ note. looked_at store.config gave c.args.newest.now store c.args.block made c.deref.result.now c.in_ok-still.still.items
    c.args.self.now c.count_all.new.self c.count_again.new.self c.args.lacking.now c.note.new.self of
    (c.deref.ensures.value ∙ c.in_ok-lacked.ensures.lacked) c.in_ok-still.ensures.still c.in_ok-lacked.ensures.tallies c.in_ok-still.ensures.tallies
    (c.count_again.ensures.failed ∙ c.count_all.ensures.failed) (note stamp))
    c.note.ensures
