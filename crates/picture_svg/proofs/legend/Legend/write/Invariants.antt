use Rattle.std.proofs.Common.{◌≡◌, ◌++◌, map, drop}
use Rattle.picture_svg.specs.Words.{entry_words}
use Rattle.picture_svg.proofs.legend.Legend.write.Given as goal

abbrev pub invariant-loop-entry : goal.invariant-loop-entry
invariant-loop-entry l = l.fn.texts ++ map entry_words l.self.entries.items ≡ l.texts ++ map entry_words (drop l.entry-index l.self.entries.items)
