use Rattle.std.proofs.Common.{◌≡◌, refl, sym, ◌∙◌, arith}
use Rattle.std.proofs.lemmas.List.FromFn.{map-range_with_len_more}
use Rattle.node_core.specs.Seen.{new_node}
use Rattle.node_device.proofs.lemmas.Holding.{new_held, held_is}
use Rattle.node_device.proofs.device.NodeDevice.new.Goals as goal

pub loop-number-preserved : goal.loop-number-preserved
loop-number-preserved c =
    c.in_ok-push.ensures.items ∙ (rw (c.loop-number.invariant, c.in_ok-new.ensures) (sym (map-range_with_len_more (new_node c.args.config.now) 0 c.loop-number.number c.loop-number.number (omega arith))))

pub invariant_of-result : goal.invariant_of-result
invariant_of-result c =
    let all : c.loop-number.number ≡ c.args.config.now.n = omega (arith, c.n-number-end.ensures.is) in
    let valid = c.n-number-end.ensures.valid in
    let is = new_held c.args.config.now valid c.loop-number.nodes.items (rw all at c.loop-number.invariant) in
    rw c.in_ok-new-2.ensures (record { valid = valid; config = refl; id = refl; idle = refl; held = rw (held_is c.args.config.now valid c.loop-number.nodes.items _ is) is })

pub returns : goal.returns
returns c =
    let all : c.loop-number.number ≡ c.args.config.now.n = omega (arith, c.n-number-end.ensures.is) in
    let valid = c.n-number-end.ensures.valid in
    let is = new_held c.args.config.now valid c.loop-number.nodes.items (rw all at c.loop-number.invariant) in
    rw (c.in_ok-new-2.ensures, held_is c.args.config.now valid c.loop-number.nodes.items _ is) refl
