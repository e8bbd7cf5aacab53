-- What sources and sinks in memory are seen as.
use Rattle.std.specs.Prelude.{ℕ, List, Bool, Option, Some, None, if◌then◌else◌}

-- a source: the bytes left, and how many it gives at once
pub record Giving : Type 0 where
  pub left : List ℕ
  pub most : ℕ

-- a source that fails: also the numbers of the calls that fail, how many calls there were, how many failed, and whether the last one did
pub record FailingGiving : Type 0 where
  pub left : List ℕ
  pub most : ℕ
  pub fails : List ℕ
  pub calls : ℕ
  pub faults : ℕ
  pub failed : Bool

-- a sink: the bytes kept, how many more fit, whether all were kept, and how many were flushed
pub record Keeping : Type 0 where
  pub kept : List ℕ
  pub room : ℕ
  pub whole : Bool
  pub flushed : ℕ

-- a sink that fails: the bytes taken, how many were flushed, how many it takes at once, and its calls as above
pub record FailingTaking : Type 0 where
  pub taken : List ℕ
  pub flushed : ℕ
  pub most : ℕ
  pub fails : List ℕ
  pub calls : ℕ
  pub faults : ℕ

-- the bytes of a sink that kept them all
abbrev pub told : Keeping → Option (List ℕ)
told s = if s.whole then Some s.kept else None
