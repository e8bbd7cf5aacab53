-- What a lent version is seen as.
use Rattle.protocol.specs.Messages.{Version}
use Rattle.node_core.specs.declared.lent.LentVersion.{LentVersion}

-- the version
abbrev pub lent : LentVersion → Version
lent v = record { stamp = v.stamp.now; sum = v.sum.now; fragment = v.fragment.now }
