-- A round: the versions in a bound that nodes answered.
use Rattle.std.specs.Prelude.{◌≡◌, ℕ, false, List, Option, length}
use Rattle.std.specs.declared.option.Option.TheVariants.{Some}
use Rattle.quorum_rules.specs.Limits.{Numbers, IsValid}
use Rattle.stamp_order.specs.declared.Stamp.{Stamp}
use Rattle.stamp_order.specs.declared.Bound.{Bound}
use Rattle.stamp_order.specs.Stamps.{same_stamp}
use Rattle.wire_forms.specs.declared.message.Reply.{Reply}
use Rattle.protocol.specs.Setting.{first_stamp}
use Rattle.protocol.specs.Instance.{setting}
use Rattle.protocol.specs.Operations.{pivot, support, stamps as stamps_of}
use Rattle.candidate_class.specs.Stamps.{stamp_at}
use Rattle.operation_core.specs.Counting.{answer_at}
use Rattle.read_core.specs.declared.round.Round.{Round}

-- what stands beside the answers fits them: the first stamp, and the stamps of the valid answers
pub record IsRound (c : Numbers) (first : Stamp) (bound : Bound) (answers : List (Option Reply)) (stamps : List (Option Stamp)) : Type 0 where
  pub valid : IsValid c
  pub begins : first ≡ first_stamp (setting c)
  pub places : length answers ≡ c.n
  pub stamp_places : length stamps ≡ c.n
  pub stamps_are : stamp_at stamps ≡ stamps_of (setting c) (answer_at answers) bound

abbrev pub FitsRound : Round → Type 0
FitsRound r = IsRound r.config.now r.first.now r.bound r.answers.now r.stamps.now

-- the pivot of the answers is this stamp, and it isn't the first
pub record HasPivot (r : Round) (p : Stamp) : Type 0 where
  pub is : pivot (setting r.config.now) (answer_at r.answers.now) r.bound ≡ Some p
  pub later : same_stamp p (first_stamp (setting r.config.now)) ≡ false

-- how many valid answers carry the stamp
abbrev pub support_in : Round → Stamp → ℕ
support_in r p = support (setting r.config.now) (answer_at r.answers.now) r.bound p
