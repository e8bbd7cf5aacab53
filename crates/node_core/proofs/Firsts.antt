-- A new node.
use Rattle.std.proofs.Common.{◌≡◌, ℕ, ◌<◌, List, [], ◌∷◌, replicate, ◌∙◌, ap}
use Rattle.std.proofs.lemmas.List.{length-replicate}
use Rattle.quorum_rules.specs.Limits.{Numbers, IsValid}
use Rattle.wire_forms.specs.Firsts.{first_of}
use Rattle.protocol.specs.Messages.{Version}
use Rattle.protocol.specs.Nodes.{first_version}
use Rattle.protocol.specs.Instance.{setting}
use Rattle.protocol.specs.Seen.{as_version}
use Rattle.protocol.proofs.lemmas.Firsts.{first_is}
use Rattle.wire_forms.specs.declared.first.First.{First}
use Rattle.wire_forms.proofs.lemmas.Firsts.{map-replicate}
use Rattle.node_core.specs.Seen.{from_first, new_node, IsNode}

-- a node whose blocks have no later versions is new
module _ (c : Numbers) (i : ℕ) (h : IsValid c) (l : i < c.n) (f : First) (e : f ≡ first_of c) (later : List (List Version)) (empty : later ≡ replicate c.blocks []) where
  begins : as_version f ≡ first_version (setting c) i
  begins = ap as_version e ∙ first_is c h i l

  pub new_is_node : IsNode c i (as_version f) later
  new_is_node = record { valid = h; below = l; begins = begins; count = rw empty (length-replicate c.blocks []) }

  pub new_view : record { config = c; number = i; blocks = from_first (as_version f) later } ≡ new_node c i
  new_view =
      let g : from_first (as_version f) later ≡ replicate c.blocks (first_version (setting c) i ∷ []) =
      rw (empty, begins) (map-replicate (λ (vs : List Version). first_version (setting c) i ∷ vs) c.blocks []) in
      ap (λ bs. record { config = c; number = i; blocks = bs }) g
