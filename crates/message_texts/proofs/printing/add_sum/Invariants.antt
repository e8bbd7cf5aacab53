use Rattle.std.proofs.Common.{◌≡◌, ◌++◌, ◌∷◌, take}
use Rattle.hex.specs.Hex.{encode_lower}
use Rattle.cross_sum.specs.Digest.{flat}
use Rattle.message_texts.proofs.printing.add_sum.Given as goal

abbrev pub invariant-loop-i : goal.invariant-loop-i
invariant-loop-i l = l.text ≡ l.fn.text ++ (32 ∷ 120 ∷ encode_lower (flat (take l.i l.sum)))
