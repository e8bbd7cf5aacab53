use Rattle.std.proofs.Common.{◌≡◌, ◌-◌, ◌+◌, ap, sym, ◌∙◌, drop, arith}
use Rattle.std.specs.declared.option.Option.TheVariants.{None, Some}
use Rattle.protocol.specs.Seen.{record_of}
use Rattle.block_device.specs.Latest.{read_by}
use Rattle.run_words.specs.declared.record.Record.{Record as Told}
use Rattle.block_device.proofs.Searching.{latest, latest_at, latest_of}
use Rattle.block_device.proofs.latest.latest_read.Goals as goal

pub returns-in-Some : goal.returns-in-Some
returns-in-Some c =
    let rs = c.args.records.now in
    let i = c.loop-at.at - 1 in
    let r = c.index-records-at.result in
    let more : i + 1 ≡ c.loop-at.at = let some = c.loop-at-test.true in omega arith in
    let none : latest c.args.client c.args.block (drop (i + 1) rs) ≡ None = ap (λ n. latest c.args.client c.args.block (drop n rs)) more ∙ c.loop-at.invariant.none in
    let at = latest_at c.args.client c.args.block rs i r (let some = c.loop-at-test.true in let within = c.loop-at.invariant.within in omega arith) none in
    let here : latest c.args.client c.args.block (drop i rs) ≡ Some c.in-Some.value.now =
    at ∙ ap (λ (z : Told). read_by c.args.client c.args.block (record_of z)) (sym c.index-records-at.is) ∙ sym c.in-Some.ensures in
    sym (latest_of c.args.client c.args.block rs i c.in-Some.value.now here)
