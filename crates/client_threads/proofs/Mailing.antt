-- What comes late to cells.
use Rattle.locked_nodes.specs.Cells.{CellView, HasNoLateMail, HasMoreAside}

-- all that was held back came
pub record HasAllAside (old new : CellView) : Type 0 where
  pub more : HasMoreAside old new
  pub none : HasNoLateMail new
