-- One block more is pruned, of many.
use Rattle.std.proofs.Common.{◌≡◌, ℕ, zero, suc, ◌+◌, ◌≤◌, ◌<◌, Bool, true, false, cond, List, [], ◌∷◌, ◌++◌, length, take, drop, get_or, sym, ◌∙◌, ap, subst, arith, length-append}
use Rattle.std.proofs.lemmas.List.{append-nil, map-append, take_more, drop_more, take_at, drop_at}
use Rattle.std.specs.Prelude.{All}
use Rattle.quorum_rules.specs.Limits.{Numbers}
use Rattle.node_core.specs.Seen.{SeenNode}
use Rattle.slot_disk.specs.Slots.{Slot, prune_slot, body_of, body_len, pieces_of, Fits}
use Rattle.version_disk.specs.Batches.{AreWritten, prune_slots}
use Rattle.version_disk.specs.Compacted.{AreFitting}
use Rattle.version_disk.specs.Deeds.{Deed, Prunes, after_deed, drops, slots_among, after_deeds, slots_by_deeds, pruning, after_prunes}
use Rattle.version_disk.specs.Kept.{IsGoodIn, AreGoodIn}
use Rattle.version_disk.specs.declared.prune.Prune.{Prune}
use Rattle.version_disk.proofs.Accepting.{prune_good}
use Rattle.version_disk.proofs.Keeping.{length-body_of}
use Rattle.version_disk.proofs.Journals.{both}
use Rattle.version_disk.proofs.lemmas.Answering.{deeds_push, slots_push, deeds_config, pieces_append, good_both}

good_at : (c : Numbers) (number : ℕ) (prunes : List Prune) (k : ℕ) (d : Prune) → AreGoodIn c number (prune_slots c prunes) → k < length prunes
    → IsGoodIn c number (prune_slot c (get_or prunes k d).block (get_or prunes k d).stamp)
good_at c number [] k d good below = absurd (omega arith)
good_at c number (p ∷ prunes) zero d good below = good.0
good_at c number (p ∷ prunes) (suc k) d good below = good_at c number prunes k d good.1 (omega arith)

-- a piece that is written, or isn't, has its room
room_at : (b : Bool) (s : Slot) (pieces then : List ℕ) (capacity grown rest behind : ℕ) → rest ≡ length (body_of s) + 1 + behind
    → then ≡ pieces ++ pieces_of (cond b (s ∷ []) []) → length pieces + rest ≤ capacity → capacity ≤ grown → length then + behind ≤ grown
room_at true s pieces then capacity grown rest behind split is room grows =
    omega (arith, ap length is, length-append pieces (pieces_of (s ∷ [])), length-append (body_of s ++ 0 ∷ []) [], length-append (body_of s) (0 ∷ []))
room_at false s pieces then capacity grown rest behind split is room grows = omega (arith, ap length is, length-append pieces [])

module _ (start node : SeenNode) (prunes : List Prune) (k : ℕ) (d : Prune) (below : k < length prunes)
    (good : AreGoodIn start.config start.number (prune_slots start.config prunes)) (state : node ≡ after_prunes start (take k prunes)) where
  abbrev p : Prune
  p = get_or prunes k d

  abbrev deed : Deed
  deed = Prunes p.block p.stamp

  abbrev slot : Slot
  slot = prune_slot start.config p.block p.stamp

  abbrev behind : List ℕ
  behind = pieces_of (prune_slots start.config (drop (k + 1) prunes))

  good_here : IsGoodIn start.config start.number slot
  good_here = good_at start.config start.number prunes k d good below

  config : node.config ≡ start.config
  config = ap (λ (n : SeenNode). n.config) state ∙ (deeds_config start (pruning (take k prunes))).0

  piece_long : length (body_of slot ++ 0 ∷ []) ≡ body_len start.config + 1
  piece_long = omega (arith, length-append (body_of slot) (0 ∷ []), length-body_of start.config slot good_here.fits)

  -- its piece stands first in what is left
  module _ (rest : List ℕ) (is : rest ≡ pieces_of (prune_slots start.config (drop k prunes))) (size : ℕ) (size_is : size ≡ body_len start.config + 1) where
    first : rest ≡ (body_of slot ++ 0 ∷ []) ++ behind
    first = is ∙ ap (λ (l : List Prune). pieces_of (prune_slots start.config l)) (drop_more prunes k d below)

    pub long_enough : size ≤ length rest
    long_enough = omega (arith, ap length first, length-append (body_of slot ++ 0 ∷ []) behind, piece_long, size_is)

    pub piece_is : take size rest ≡ body_of (prune_slot node.config p.block p.stamp) ++ 0 ∷ []
    piece_is =
        ap (take size) first ∙ take_at (body_of slot ++ 0 ∷ []) behind size (omega (arith, piece_long, size_is))
        ∙ ap (λ (c : Numbers). body_of (prune_slot c p.block p.stamp) ++ 0 ∷ []) (sym config)

    pub behind_is : drop size rest ≡ behind
    behind_is = ap (drop size) first ∙ drop_at (body_of slot ++ 0 ∷ []) behind size (omega (arith, piece_long, size_is))

  deeds_more : pruning (take (k + 1) prunes) ≡ pruning (take k prunes) ++ deed ∷ []
  deeds_more = ap pruning (take_more prunes k d below) ∙ map-append (λ (q : Prune). Prunes q.block q.stamp) (take k prunes) (p ∷ [])

  pub state_more : (then : SeenNode) → then ≡ after_deed node deed → then ≡ after_prunes start (take (k + 1) prunes)
  state_more then is =
      is ∙ ap (λ (n : SeenNode). after_deed n deed) state ∙ sym (ap (after_deeds start) deeds_more ∙ deeds_push start (pruning (take k prunes)) deed)

  slots_more : slots_by_deeds start (pruning (take (k + 1) prunes)) ≡ slots_by_deeds start (pruning (take k prunes)) ++ slots_among node deed
  slots_more =
      ap (slots_by_deeds start) deeds_more ∙ slots_push start (pruning (take k prunes)) deed
      ∙ ap (λ (n : SeenNode). slots_by_deeds start (pruning (take k prunes)) ++ slots_among n deed) (sym state)

  good_among : AreGoodIn start.config start.number (slots_among node deed)
  good_among = at (drops node p.block p.stamp)
    where
      here : IsGoodIn start.config start.number (prune_slot node.config p.block p.stamp)
      here = subst (λ (c : Numbers). IsGoodIn start.config start.number (prune_slot c p.block p.stamp)) (sym config) good_here

      at : (b : Bool) → AreGoodIn start.config start.number (cond b (prune_slot node.config p.block p.stamp ∷ []) [])
      at true = (here, tt)
      at false = tt

  pub written_more : (pieces then : List ℕ) (count many : ℕ) → AreWritten start (pruning (take k prunes)) pieces count
      → then ≡ pieces ++ pieces_of (slots_among node deed) → many ≡ count + length (slots_among node deed) → AreWritten start (pruning (take (k + 1) prunes)) then many
  written_more pieces then count many written more counted =
      let slots = slots_by_deeds start (pruning (take k prunes)) in
      let added = slots_among node deed in
      let before = written.count in
      record {
        pieces = more ∙ ap (λ (l : List ℕ). l ++ pieces_of added) written.pieces ∙ sym (pieces_append slots added) ∙ ap pieces_of (sym slots_more);
        count = omega (arith, ap length slots_more, length-append slots added);
        good = subst (AreGoodIn start.config start.number) (sym slots_more) (good_both start.config start.number slots added written.good good_among);
      }

  pub few_more : (count many : ℕ) → count ≤ k → many ≡ count + length (slots_among node deed) → many ≤ k + 1
  few_more count many few is = at (drops node p.block p.stamp) is
    where
      at : (b : Bool) → many ≡ count + length (cond b (prune_slot node.config p.block p.stamp ∷ []) []) → many ≤ k + 1
      at true e = omega arith
      at false e = omega arith

  pub room_more : (pieces then rest : List ℕ) (capacity grown : ℕ) → rest ≡ pieces_of (prune_slots start.config (drop k prunes))
      → then ≡ pieces ++ pieces_of (slots_among node deed) → length pieces + length rest ≤ capacity → capacity ≤ grown → length then + length behind ≤ grown
  room_more pieces then rest capacity grown is more room grows =
      let here : IsGoodIn start.config start.number (prune_slot node.config p.block p.stamp) =
      subst (λ (c : Numbers). IsGoodIn start.config start.number (prune_slot c p.block p.stamp)) (sym config) good_here in
      let long : length (body_of (prune_slot node.config p.block p.stamp)) ≡ body_len start.config = length-body_of start.config (prune_slot node.config p.block p.stamp) here.fits in
      room_at (drops node p.block p.stamp) (prune_slot node.config p.block p.stamp) pieces then capacity grown (length rest) (length behind)
      (omega (arith, ap length (is ∙ ap (λ (l : List Prune). pieces_of (prune_slots start.config l)) (drop_more prunes k d below)), length-append (body_of slot ++ 0 ∷ []) behind, piece_long, long)) more room grows

-- the slots of prunes of blocks that there are, are good ones
pub prunes_good : (c : Numbers) (number : ℕ) (prunes : List Prune) → AreFitting c (prune_slots c prunes) → All (λ (q : Prune). q.block < c.blocks) prunes → AreGoodIn c number (prune_slots c prunes)
prunes_good c number [] fits there = tt
prunes_good c number (q ∷ prunes) fits there =
    (prune_good c number q.block q.stamp (there 0 q (omega arith)) fits.0, prunes_good c number prunes fits.1 (λ k d below. there (suc k) d (omega arith)))

-- one piece more
module _ (c : Numbers) (prunes : List Prune) (k : ℕ) (d : Prune) (below : k < length prunes) where
  slots_next : prune_slots c (take (k + 1) prunes) ≡ prune_slots c (take k prunes) ++ prune_slot c (get_or prunes k d).block (get_or prunes k d).stamp ∷ []
  slots_next = ap (prune_slots c) (take_more prunes k d below) ∙ map-append (λ (q : Prune). prune_slot c q.block q.stamp) (take k prunes) (get_or prunes k d ∷ [])

  pub pieces_more : (pieces then : List ℕ) → pieces ≡ pieces_of (prune_slots c (take k prunes)) → then ≡ pieces ++ (body_of (prune_slot c (get_or prunes k d).block (get_or prunes k d).stamp) ++ 0 ∷ [])
      → then ≡ pieces_of (prune_slots c (take (k + 1) prunes))
  pieces_more pieces then is more =
      let slots = prune_slots c (take k prunes) in
      let slot = prune_slot c (get_or prunes k d).block (get_or prunes k d).stamp in
      more ∙ ap (λ (l : List ℕ). l ++ (body_of slot ++ 0 ∷ [])) is ∙ ap (λ (l : List ℕ). pieces_of slots ++ l) (sym (append-nil (body_of slot ++ 0 ∷ [])))
      ∙ sym (pieces_append slots (slot ∷ [])) ∙ ap pieces_of (sym slots_next)

  pub fitting_more : AreFitting c (prune_slots c (take k prunes)) → Fits c (prune_slot c (get_or prunes k d).block (get_or prunes k d).stamp) → AreFitting c (prune_slots c (take (k + 1) prunes))
  fitting_more fits one = subst (AreFitting c) (sym slots_next) (both (Fits c) (prune_slots c (take k prunes)) (prune_slot c (get_or prunes k d).block (get_or prunes k d).stamp ∷ []) fits (one, tt))
