use Rattle.std.proofs.Common.{sym, subst, ap}
use Rattle.std.specs.List.{flat_map}
use Rattle.std.specs.Io.KnownBytes.{Appends}
use Rattle.std.proofs.KnownBytes.{Appends-nil, Appends-trans}
use Rattle.std.proofs.lemmas.List.{take_all}
use Rattle.store_words.specs.Lines.{scrub_line}
use Rattle.store_words.proofs.Told.{flat_map_next}
use Rattle.store_words.proofs.lines.write_scrubbed.Goals as goal

pub loop-line-init : goal.loop-line-init
loop-line-init g c = Appends-nil (g.W.Write.contents c.args.to.now)

pub loop-line-preserved : goal.loop-line-preserved
loop-line-preserved g c =
    subst (λ bytes. Appends (g.W.Write.contents c.args.to.now) (g.W.Write.contents c.writeln.new.self) bytes)
    (sym (flat_map_next scrub_line c.args.lines.now c.loop-line.line-index _ c.loop-line-test.true))
    (Appends-trans _ _ _ _ _ c.loop-line.invariant c.in_ok-writeln.ensures.bytes)

pub returns : goal.returns
returns g c =
    subst (λ bytes. Appends (g.W.Write.contents c.args.to.now) (g.W.Write.contents c.loop-line.to) bytes)
    (ap (flat_map scrub_line) (take_all c.loop-line.line-index c.args.lines.now c.loop-line-test.false)) c.loop-line.invariant
