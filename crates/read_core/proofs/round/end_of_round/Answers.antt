use Rattle.std.proofs.Common.{◌≤◌, length, refl, take, arith}
use Rattle.read_core.proofs.Valid.{is_round}
use Rattle.read_core.proofs.round.end_of_round.Goals as goal

pub end-requires : goal.end-requires
end-requires c =
    let a = c.args in
    let xs = c.stamps_of-stamps.result in
    let size = c.stamps_of-stamps.ensures.places in
    let most = c.n-n.ensures.valid.nodes.1 in
    let room : a.config.now.n ≤ length xs = omega (arith, size, most) in
    is_round a.config.now a.bound.now a.answers.now c.n-n.ensures.valid a.first.now c.requires.first c.requires.places xs room c.stamps_of-stamps.ensures.stamps c.n-n.result c.n-n.ensures.is (take c.n-n.result xs) refl
