use Rattle.std.proofs.Common.{◌≡◌, ◌∙◌, length, take, take_all, sym, rules}
use Rattle.std.proofs.lemmas.Bool.{eqb-true, eqb-false}
use Rattle.system_file.proofs.Checks.{fits_holds, fits_faults, detects, misfit_faults, no_fewer}
use Rattle.system_file.proofs.recorded_file.RecordedFileSlabFile.read_checked.Goals as goal

pub returns-in-Ok-clause-read : goal.returns-in-Ok-clause-read
returns-in-Ok-clause-read g c =
    let start = g.S.FirstContents.of_node c.args.self.now.number in
    let h = g.C.Calls.history c.args.self.now.calls in
    let got = c.read_under.new.buf in
    let len : length got ≡ length c.args.room.now = search rules in
    let all : take c.in-Ok.count got ≡ got = take_all _ got (search rules) in
    rw (c.in-Ok.ensures.noted, all) λ fits clean. fits_holds start h c.args.key c.args.check c.args.at _ got len c.requires.some (sym c.digest_of.ensures.value ∙ eqb-true _ _ fits) clean

pub returns-in-Ok-clause-detects : goal.returns-in-Ok-clause-detects
returns-in-Ok-clause-detects g c =
    let start = g.S.FirstContents.of_node c.args.self.now.number in
    let h = g.C.Calls.history c.args.self.now.calls in
    let got = c.read_under.new.buf in
    let len : length got ≡ length c.args.room.now = search rules in
    let all : take c.in-Ok.count got ≡ got = take_all _ got (search rules) in
    rw (c.in-Ok.ensures.noted, all) λ honest within right. detects start h c.args.key c.args.check c.args.at _ got len c.requires.some honest within right

pub returns-in-Ok-clause-faults : goal.returns-in-Ok-clause-faults
returns-in-Ok-clause-faults g c =
    let start = g.S.FirstContents.of_node c.args.self.now.number in
    let h = g.C.Calls.history c.args.self.now.calls in
    let got = c.read_under.new.buf in
    let some = c.requires.some in
    let len : length got ≡ length c.args.room.now = search rules in
    let all : take c.in-Ok.count got ≡ got = take_all _ got (search rules) in
    rw (c.in-Ok.ensures.noted, all) (
      λ fits. fits_faults start h c.args.key c.args.check c.args.at _ got len some (sym c.digest_of.ensures.value ∙ eqb-true _ _ fits),
      λ other there right. misfit_faults start h c.args.key c.args.check c.args.at _ got len some (λ same. eqb-false _ _ other (c.digest_of.ensures.value ∙ same)) right,
      no_fewer start h c.args.key c.args.check c.args.at _ got len some,
    )
