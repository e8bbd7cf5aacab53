use Rattle.std.proofs.Common.{◌≤◌, arith}
use Rattle.plan_words.proofs.FormCauses.{flood_above, flood_within}
use Rattle.plan_words.proofs.numbers.read_flood.Goals as goal

pub returns-then-forged : goal.returns-then-forged
returns-then-forged c =
    let read = c.in_ok-forged.ensures in
    let f = c.in_ok-forged.forged in
    flood_above c.args.config.now c.args.client.now c.args.block.now c.args.time.now c.args.count.now f.time f.count read.0 read.1.6 read.1.7 read.1.2 (let few : f.count ≤ 250 = read.1.3 in omega arith) (omega arith)

pub returns : goal.returns
returns c =
    let read = c.in_ok-forged.ensures in
    let f = c.in_ok-forged.forged in
    let le : f.count ≤ f.time = omega arith in (
      flood_within c.args.config.now c.args.client.now c.args.block.now c.args.time.now c.args.count.now f.time f.count read.0 read.1.6 read.1.7 read.1.2 read.1.3 le,
      (read.1.0, read.1.1, read.1.2, read.1.3, le, read.1.4, read.1.5, read.1.6, read.1.7),
    )
