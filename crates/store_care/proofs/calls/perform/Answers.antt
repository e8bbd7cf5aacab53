use Rattle.std.proofs.Common.{List, Option, Vec, Global}
use Rattle.protocol.specs.Operations.{Outcome}
use Rattle.store_device.specs.Calls.{HasPerformed}
use Rattle.store_care.proofs.Looks.{ok_is, err_is}
use Rattle.store_care.proofs.calls.perform.Goals as goal

pub returns-clause-ok : goal.returns-clause-ok
returns-clause-ok g c =
    let D = g.D.Disk in
    ok_is (λ (told : Option (List (Option Outcome))). HasPerformed D.pending D.seen D.most D.moment D.left_since c.args.ops.now told c.args.store.now c.perform.new.self)
    (λ (v : Vec (Option Outcome) Global). v.items) c.perform.result c.perform.ensures.performed

pub returns-clause-err : goal.returns-clause-err
returns-clause-err g c =
    let D = g.D.Disk in
    err_is (λ (told : Option (List (Option Outcome))). HasPerformed D.pending D.seen D.most D.moment D.left_since c.args.ops.now told c.args.store.now c.perform.new.self)
    (λ (v : Vec (Option Outcome) Global). v.items) c.perform.result c.perform.ensures.performed
