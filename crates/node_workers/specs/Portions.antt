-- Boxes, of each of which every portion gets a putter.
use Rattle.std.specs.Prelude.{◌≡◌, ℕ, List, length, slice_get}
use Rattle.std.specs.declared.option.Option.TheVariants.{Some}
use Rattle.inboxes.specs.Sides.{Putting, Taking, AreNew, new_putter}

-- so many putters into a box that have put nothing, whose numbers are their places
pub record AreNewPutters {T P : Type 0} (count : ℕ) (box : Taking T P) (putters : List (Putting T P)) : Type 0 where
  pub all : length putters ≡ count
  pub each : AreNew box.inbox putters count

-- so many portions have a putter into each of these boxes, in the boxes' order; a putter's number is its portion's place
pub record AreSpread {T P : Type 0} (all : ℕ) (boxes : List (Taking T P)) (portions : List (List (Putting T P))) : Type 0 where
  pub count : length portions ≡ all
  pub full : (i : ℕ) (portion : List (Putting T P)) → slice_get portions i ≡ Some portion → length portion ≡ length boxes
  pub each : (i k : ℕ) (portion : List (Putting T P)) (p : Putting T P) (box : Taking T P) → slice_get portions i ≡ Some portion → slice_get portion k ≡ Some p → slice_get boxes k ≡ Some box → p ≡ new_putter box.inbox i
