-- What a disk holds after any calls and crashes.
use Rattle.std.proofs.Common.{◌≡◌, inl, inr, ℕ, List, [], ◌∷◌, ◌++◌, take, map, None, sym, ◌∙◌, ap, append_assoc}
use Rattle.std.proofs.lemmas.List.{append-nil}
use Rattle.quorum_rules.specs.Limits.{Numbers}
use Rattle.node_core.specs.Seen.{SeenNode, new_node}
use Rattle.slot_disk.specs.Slots.{Slot}
use Rattle.version_disk.specs.Held.{held, played, slots_of, first_bad, first_bad_from}
use Rattle.version_disk.specs.Deeds.{after_deed, slots_by, after_deeds, slots_by_deeds}
use Rattle.version_disk.specs.Lives.{Turn, Acknowledged, Stopped, AcknowledgedAll, StoppedIn, Opened, Moment, Turns, IsLife, end_of, MayEnd, OnlyGrows}

module _ (c : Numbers) (number : ℕ) where
  ends_next : (old bytes : List ℕ) (node end : SeenNode) (turns : List Turn) (turn : Turn) → held c number old ≡ node → Turns c number old turn bytes
      → ((next : SeenNode) → held c number bytes ≡ next → MayEnd next turns end) → MayEnd node (turn ∷ turns) end
  ends_next old bytes node end turns (Acknowledged deed) is done rest = rest (after_deed node deed) (done.state ∙ ap (λ (n : SeenNode). after_deed n deed) is)
  ends_next old bytes node end turns (Stopped deed) is left rest = elim left.state [
    | inl same ↦ inl (rest node (same ∙ is))
    | inr did ↦ inr (rest (after_deed node deed) (did ∙ ap (λ (n : SeenNode). after_deed n deed) is))
  ]
  ends_next old bytes node end turns (AcknowledgedAll deeds) is done rest = rest (after_deeds node deeds) (done.state ∙ ap (λ (n : SeenNode). after_deeds n deeds) is)
  ends_next old bytes node end turns (StoppedIn deeds) is left rest =
      (left.state.0, left.state.1, rest (after_deeds node (take left.state.0 deeds)) (left.state.2 ∙ ap (λ (n : SeenNode). after_deeds n (take left.state.0 deeds)) is))
  ends_next old bytes node end turns Opened is same rest = rest node (ap (played (new_node c number)) same ∙ is)

  -- from a disk that holds a node
  pub ends : (life : List Moment) (old : List ℕ) (node : SeenNode) → held c number old ≡ node → IsLife c number old life → MayEnd node (map (λ (m : Moment). m.turn) life) (held c number (end_of old life))
  ends [] old node is lives = is
  ends (m ∷ more) old node is lives =
      ends_next old m.bytes node (held c number (end_of m.bytes more)) (map (λ (k : Moment). k.turn) more) m.turn is lives.0 (λ next here. ends more m.bytes next here lives.1)

  good_next : (old bytes : List ℕ) (turn : Turn) → first_bad c number old ≡ None → Turns c number old turn bytes → first_bad c number bytes ≡ None
  good_next old bytes (Acknowledged deed) good done = done.good
  good_next old bytes (Stopped deed) good left = left.good
  good_next old bytes (AcknowledgedAll deeds) good done = done.good
  good_next old bytes (StoppedIn deeds) good left = left.good
  good_next old bytes Opened good same = ap (first_bad_from c number 0) same ∙ good

  pub stays_good : (life : List Moment) (old : List ℕ) → first_bad c number old ≡ None → IsLife c number old life → first_bad c number (end_of old life) ≡ None
  stays_good [] old good lives = good
  stays_good (m ∷ more) old good lives = stays_good more m.bytes (good_next old m.bytes m.turn good lives.0) lives.1

  grows_next : (old bytes : List ℕ) (turn : Turn) → Turns c number old turn bytes → (more : List Slot) × (slots_of c bytes ≡ slots_of c old ++ more)
  grows_next old bytes (Acknowledged deed) done = (slots_by (held c number old) deed, done.slots)
  grows_next old bytes (Stopped deed) left = left.begins
  grows_next old bytes (AcknowledgedAll deeds) done = (slots_by_deeds (held c number old) deeds, done.slots)
  grows_next old bytes (StoppedIn deeds) left = left.begins
  grows_next old bytes Opened same = ([], same ∙ sym (append-nil (slots_of c old)))

  pub grows : (bytes : List ℕ) (life : List Moment) → OnlyGrows c number bytes life
  grows bytes [] lives = ([], sym (append-nil (slots_of c bytes)))
  grows bytes (m ∷ more) lives =
      let first = grows_next bytes m.bytes m.turn lives.0 in
      let later = grows m.bytes more lives.1 in
      (first.0 ++ later.0, later.1 ∙ ap (λ (l : List Slot). l ++ later.0) first.1 ∙ append_assoc (slots_of c bytes) first.0 later.0)
