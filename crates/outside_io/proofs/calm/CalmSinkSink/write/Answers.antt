use Rattle.std.proofs.Common.{refl}
use Rattle.outside_io.proofs.lemmas.Known.{adds_told}
use Rattle.outside_io.proofs.calm.CalmSinkSink.write.Goals as goal

pub returns-clause-bytes : goal.returns-clause-bytes
returns-clause-bytes c = adds_told c.args.self.now.whole c.keep.new.self.whole _ c.args.self.now.kept c.keep.new.self.kept c.args.piece.now c.args.self.now.room c.keep.ensures.whole refl c.keep.ensures.kept
