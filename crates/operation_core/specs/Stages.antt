-- What a phase asks for, as the code says it, and what is stored.
use Rattle.std.specs.Prelude.{◌≡◌, ℕ, [], slice_index_or}
use Rattle.gf_field.specs.Fragments.{fragments_of}
use Rattle.ida_code.specs.Sums.{sum_of}
use Rattle.quorum_rules.specs.Limits.{Numbers}
use Rattle.protocol.specs.Messages.{Version}
use Rattle.protocol.specs.Operations.{Stage as ModelStage}
use Rattle.protocol.specs.Operations.Stage.{Times as AskTimes, Versions as AskVersions, Storing as Store}
use Rattle.operation_core.specs.declared.stage.Stage.{Stage}
use Rattle.operation_core.specs.declared.stage.Stage.TheVariants.{Times, Versions, Storing as Stores}
use Rattle.operation_core.specs.declared.stage.Storing.{Storing}

-- the stage of the definitions
abbrev pub stage_of : Stage → ModelStage
stage_of Times = AskTimes
stage_of (Versions bound) = AskVersions bound
stage_of (Stores s) = Store s.stamp s.value

-- what node i is to keep
abbrev pub version_of : Storing → ℕ → Version
version_of s i = record { stamp = s.stamp; sum = s.sum; fragment = slice_index_or s.shares i [] }

-- the value's fragments, and their digests
pub record IsEncoded (c : Numbers) (s : Storing) : Type 0 where
  pub shares : s.shares ≡ fragments_of c.n c.m s.value
  pub sum : s.sum ≡ sum_of c.n c.m s.value

-- what is stored is encoded for the cluster
abbrev pub FitsStage : Numbers → Stage → Type 0
FitsStage c (Stores s) = IsEncoded c s
FitsStage c _ = Unit {0}
