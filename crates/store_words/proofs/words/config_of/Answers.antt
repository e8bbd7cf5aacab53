use Rattle.std.proofs.Common.{refl}
use Rattle.store_words.proofs.Spelled.{spelled}
use Rattle.store_words.proofs.words.config_of.Goals as goal

pub returns-in-Ok-clause-spelled : goal.returns-in-Ok-clause-spelled
returns-in-Ok-clause-spelled c = rw (c.in-Ok.ensures.ok, spelled _ _ c.in_ok-n.ensures.ok, spelled _ _ c.in_ok-t.ensures.ok, spelled _ _ c.in_ok-b.ensures.ok, spelled _ _ c.in_ok-qc.ensures.ok, spelled _ _ c.in_ok-m.ensures.ok, spelled _ _ c.in_ok-size.ensures.ok, spelled _ _ c.in_ok-blocks.ensures.ok) refl
