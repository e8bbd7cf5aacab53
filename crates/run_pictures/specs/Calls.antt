-- How a call of the program ends: what its source gave and its sink took, by its status.
use Rattle.std.specs.Prelude.{ℕ, ◌≡◌, ◌+◌, ⊤, List, Option}
use Rattle.outside_io.specs.declared.reading.TheConstants.{LIMIT}
use Rattle.outside_io.specs.Given.{GaveAtMost, GaveExactly}
use Rattle.outside_io.specs.Written.{Adds, AllFlushed, TakesPrefix}
use Rattle.command_texts.specs.Texts.{GivesAll, IsRefusedFor}
use Rattle.command_texts.specs.declared.words.Command.TheVariants.{Replay as TheReplay}
use Rattle.command_texts.specs.declared.refusal.Refusal.TheVariants as refusals
use Rattle.command_texts.specs.declared.status.Status.TheVariants.{Done, Illegal, BadWords, BadScript, ReadFault, WriteFault, NoMemory, TooLong, ClockFull, BadMagic, CutRequest, TooManyRequests}
use Rattle.picture_svg.specs.declared.picture.Picture.{Picture}
use Rattle.picture_svg.specs.Documents.{IsPictureOf}
use Rattle.run_pictures.specs.Shown.{Depicts, HasTooMany}
use Rattle.run_pictures.specs.declared.status.PictureStatus.{PictureStatus}
use Rattle.run_pictures.specs.declared.status.PictureStatus.TheVariants.{Replay, TooManyLines}

-- the text is a picture of the run of what the source gave
pub record Draws (left left_after : Option (List ℕ)) (text : List ℕ) : Type 0 where
  pub input : List ℕ
  pub given : GivesAll left left_after input
  pub picture : Picture
  pub depicts : Depicts input picture
  pub drawn : IsPictureOf picture text

-- such a text was written whole and flushed
abbrev pub HasDrawn : (left left_after taken taken_after : Option (List ℕ)) → ℕ → Type 0
HasDrawn left left_after taken taken_after flushed_after =
    (text : List ℕ) × Draws left left_after text × Adds taken taken_after text × AllFlushed taken_after flushed_after

-- a beginning of such a text was taken, and nothing was flushed
abbrev pub HasBegun : (left left_after taken taken_after : Option (List ℕ)) → ℕ → ℕ → Type 0
HasBegun left left_after taken taken_after flushed flushed_after =
    (text : List ℕ) × Draws left left_after text × TakesPrefix taken taken_after text × (flushed_after ≡ flushed)

-- why there is no picture, by what the source gave: as for `replay`, or too many lines
abbrev pub StopsFor : PictureStatus → Option (List ℕ) → Option (List ℕ) → Type 0
StopsFor (Replay NoMemory) left left_after = ⊤
StopsFor (Replay ReadFault) left left_after = GaveAtMost LIMIT left left_after
StopsFor (Replay TooLong) left left_after = GaveExactly (LIMIT + 1) left left_after
StopsFor (Replay (BadScript line cause)) left left_after = IsRefusedFor TheReplay left left_after (refusals.BadScript (record { line = line; cause = cause }))
StopsFor (Replay Done) left left_after = ⊥
StopsFor (Replay (Illegal flaw)) left left_after = ⊥
StopsFor (Replay BadWords) left left_after = ⊥
StopsFor (Replay WriteFault) left left_after = ⊥
StopsFor (Replay (ClockFull drawn)) left left_after = ⊥
StopsFor (Replay (BadMagic at)) left left_after = ⊥
StopsFor (Replay (CutRequest at)) left left_after = ⊥
StopsFor (Replay TooManyRequests) left left_after = ⊥
StopsFor (TooManyLines count) left left_after = (input : List ℕ) × GivesAll left left_after input × HasTooMany input count

-- what a call without words has read and written that ends so
abbrev pub Ends : PictureStatus → (left left_after taken taken_after : Option (List ℕ)) → ℕ → ℕ → Type 0
Ends (Replay Done) left left_after taken taken_after flushed flushed_after = HasDrawn left left_after taken taken_after flushed_after
Ends (Replay WriteFault) left left_after taken taken_after flushed flushed_after = HasBegun left left_after taken taken_after flushed flushed_after
Ends status left left_after taken taken_after flushed flushed_after = StopsFor status left left_after
