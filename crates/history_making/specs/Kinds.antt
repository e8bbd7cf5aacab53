-- The kind of an entry, in the words of runs.
use Rattle.protocol.specs.History.{Kind as FullKind}
use Rattle.protocol.specs.History.Kind.{Write as FullWrite, Foreign as FullForeign, Read as FullRead}
use Rattle.history_making.specs.declared.entry.Kind.{Kind}
use Rattle.history_making.specs.declared.entry.Kind.TheVariants.{Read, Write, Foreign}

abbrev pub full_kind : Kind → FullKind
full_kind Read = FullRead
full_kind Write = FullWrite
full_kind Foreign = FullForeign
