-- Which faults a line can meet.
use Rattle.std.proofs.Common.{◌≡◌, refl}
use Rattle.std.specs.Prelude.{find}
use Rattle.run_words.specs.declared.line.Line.TheVariants.{Write, Read, Call}
use Rattle.protocol.specs.Setting.{Setting}
use Rattle.protocol.specs.World.{World}
use Rattle.protocol.specs.Lines.{Line, meets, fault}
use Rattle.world_steps.specs.Faults.{possible_faults}

-- a line meets no fault but those that are looked for in it
pub no_other_fault : (s : Setting) (w : World) (line : Line) → find (meets s w line) (possible_faults line) ≡ fault s w line
no_other_fault s w (Call c i) = refl
no_other_fault s w (Write c block value) = refl
no_other_fault s w (Read c block) = refl
no_other_fault s w _ = refl
