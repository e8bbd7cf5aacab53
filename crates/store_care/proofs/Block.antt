-- What is counted and noted of one block, of which a read gave something.
use Rattle.std.proofs.Common.{◌≡◌, ◌&&◌, ℕ, Bool, false, List, map, length, get_or, Option, Some, None, ap, subst, ◌∙◌, arith}
use Rattle.std.specs.List.{range_with_len}
use Rattle.std.specs.Option.{option_map}
use Rattle.quorum_rules.specs.Limits.{Numbers}
use Rattle.frag_check.specs.declared.summed.Summed.{Summed}
use Rattle.protocol.specs.Messages.{Version}
use Rattle.store_device.specs.Stores.{SeenStore}
use Rattle.store_care.specs.Given.{Given}
use Rattle.store_care.specs.Holdings.{holding_of, made_of, newest_at}
use Rattle.store_care.specs.Tallies.{AreChanged, is_sound, lacks, with_holding, with_restored}
use Rattle.store_care.specs.Steps.{HasLookedAt, IsNoted, by_seat, holding_in}
use Rattle.store_care.specs.declared.care.Care.{Care}
use Rattle.store_care.specs.declared.care.Lacking.{Lacking}
use Rattle.store_care.proofs.Changing.{then_changed, changed_alike, noted_at, noted_length}
use Rattle.store_care.proofs.Looked.{by_seat_alike}

module _ {D : Type 0} (c : Numbers) (g : Given) (newest : List (Option Version)) (after : SeenStore D) (block : ℕ) (made : Option Summed) where
  -- what each seat's node held and holds, and how the parts say what it lacks
  abbrev was : ℕ → Option Version
  was seat = get_or newest seat None

  abbrev is : ℕ → Option Version
  is seat = newest_at after block seat

  abbrev lacked_by : ℕ → Bool
  lacked_by seat = lacks (holding_in g.stamp made newest seat)

  abbrev sound_by : ℕ → Bool
  sound_by seat = is_sound (option_map (holding_of seat g.stamp made) (is seat))

  abbrev short_by : ℕ → Bool
  short_by seat = lacks (option_map (holding_of seat g.stamp made) (is seat))

  pub looked_at : (lacked still : List Bool) (old mid new : Care) (lacking noted : Lacking)
      → made ≡ made_of c g
      → lacked ≡ map lacked_by (range_with_len 0 (length newest))
      → still ≡ map (λ seat. get_or lacked seat false && short_by seat) (range_with_len 0 (length lacked))
      → AreChanged (λ seat. with_holding (holding_in g.stamp made newest seat)) (length newest) old.tallies.items mid.tallies.items
      → AreChanged (λ seat. with_restored (get_or lacked seat false && sound_by seat)) (length lacked) mid.tallies.items new.tallies.items
      → new.failed ≡ old.failed
      → IsNoted block (Some g) still lacking noted
      → HasLookedAt c newest after block (Some g) old new lacking noted
  looked_at lacked still old mid new lacking noted of are_lacked are_still counted again failed note =
      let count : length lacked ≡ length newest = noted_length lacked_by lacked (length newest) are_lacked in
      let f = λ (seat : ℕ). with_holding (holding_in g.stamp made newest seat) in
      let r = λ (seat : ℕ). with_restored (lacked_by seat && sound_by seat) in
      let changed : AreChanged r (length newest) mid.tallies.items new.tallies.items =
      changed_alike (λ seat. with_restored (get_or lacked seat false && sound_by seat)) r (length newest) mid.tallies.items new.tallies.items
      (λ seat t lt. ap (λ (b : Bool). with_restored (b && sound_by seat) t) (noted_at lacked_by lacked (length newest) seat false are_lacked lt))
      (subst (λ (n : ℕ). AreChanged (λ seat. with_restored (get_or lacked seat false && sound_by seat)) n mid.tallies.items new.tallies.items) count again) in
      let both = then_changed f r (length newest) old.tallies.items mid.tallies.items new.tallies.items counted changed in
      let seats : still ≡ by_seat (length newest) (λ seat. lacked_by seat && short_by seat) =
      are_still ∙ ap (λ (n : ℕ). map (λ seat. get_or lacked seat false && short_by seat) (range_with_len 0 n)) count
      ∙ by_seat_alike (λ seat. get_or lacked seat false && short_by seat) (λ seat. lacked_by seat && short_by seat) 0 (length newest)
      (λ seat le lt. ap (λ (b : Bool). b && short_by seat) (noted_at lacked_by lacked (length newest) seat false are_lacked (omega arith))) in
      record {
        tallies = subst (λ (m : Option Summed). AreChanged (λ seat t. with_restored (lacks (holding_in g.stamp m newest seat) && is_sound (option_map (holding_of seat g.stamp m) (is seat)))
            (with_holding (holding_in g.stamp m newest seat) t)) (length newest) old.tallies.items new.tallies.items) of both;
        failed = failed;
        seats = subst (λ (s : List Bool). IsNoted block (Some g) s lacking noted)
            (seats ∙ ap (λ (m : Option Summed). by_seat (length newest) (λ seat. lacks (holding_in g.stamp m newest seat) && lacks (option_map (holding_of seat g.stamp m) (is seat)))) of) note;
      }
