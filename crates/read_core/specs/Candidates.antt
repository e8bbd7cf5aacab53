-- The answers that carry a stamp.
use Rattle.std.specs.Prelude.{◌≡◌, ◌<◌, ◌&&◌, not, ℕ, List, Option, length, map, slice_get}
use Rattle.std.specs.declared.option.Option.TheVariants.{None, Some}
use Rattle.stamp_order.specs.declared.Stamp.{Stamp}
use Rattle.cross_sum.specs.Digest.{digest}
use Rattle.cross_sum.specs.declared.part.Part.{Part}
use Rattle.cross_sum.specs.Parts.{numbers, strings}
use Rattle.gf_field.specs.Fragments.{AreParts, string_len, decoded}
use Rattle.quorum_rules.specs.Limits.{Numbers}
use Rattle.protocol.specs.Count.{collect, kept_where}
use Rattle.wire_forms.specs.declared.message.Version.{Version}
use Rattle.wire_forms.specs.declared.message.Reply.{Reply}
use Rattle.wire_forms.specs.declared.message.Reply.TheVariants.{Found}
use Rattle.protocol.specs.Operations.{only_if, numbered, is_answered, is_there}
use Rattle.candidate_class.specs.Stamps.{stamp_at, is_stamp}
use Rattle.operation_core.specs.Counting.{answer_at}

-- the version of an answer, if it found one
abbrev pub found_in : Option Reply → Option Version
found_in (Some (Found v)) = Some v
found_in _ = None

-- the version of node i, where its answer is valid and carries the stamp
abbrev pub carrier : List (Option Reply) → List (Option Stamp) → Stamp → ℕ → Option (ℕ × Version)
carrier answers stamps stamp i = only_if (is_stamp stamp (stamp_at stamps i)) (numbered i (found_in (answer_at answers i)))

-- those of all nodes
abbrev pub carriers_in : List (Option Reply) → List (Option Stamp) → Stamp → List (ℕ × Version)
carriers_in answers stamps stamp = collect (length answers) (carrier answers stamps stamp)

-- the nodes whose answers aren't valid
abbrev pub invalid_in : List (Option Reply) → List (Option Stamp) → List ℕ
invalid_in answers stamps = collect (length answers) (λ i. kept_where (is_answered (answer_at answers i) && not (is_there (stamp_at stamps i))) i)

-- these are as many fragments as make a block, of different nodes
abbrev pub ArePartsIn : Numbers → List Part → Type 0
ArePartsIn c parts = AreParts c.n c.m (string_len c.m c.size) (numbers parts) (strings parts)

-- the block that they decode to
abbrev pub decoded_in : Numbers → List Part → List ℕ
decoded_in c parts = decoded c.m c.size (numbers parts) (strings parts)

-- parts as pairs of number and fragment
abbrev pub shown_parts : List Part → List (ℕ × List ℕ)
shown_parts parts = map (λ (p : Part). (p.number, p.bytes)) parts

-- each version that carries the stamp has its fragment's digest in its own cross checksum
abbrev pub CarryWhole : List (Option Reply) → List (Option Stamp) → Stamp → Type 0
CarryWhole answers stamps stamp = (i : ℕ) (v : Version) → i < length answers → carrier answers stamps stamp i ≡ Some (i, v) → slice_get v.sum i ≡ Some (digest v.fragment)
