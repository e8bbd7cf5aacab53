-- One slot more, and the state that the disk then holds.
use Rattle.std.proofs.Common.{◌≡◌, ◌⊎◌, inl, inr, ℕ, zero, suc, ◌+◌, ◌-◌, ◌*◌, ◌≤◌, false, List, [], ◌∷◌, ◌++◌, map, length, get_or, take, drop, None, refl, sym, ◌∙◌, ap, subst, arith, append_assoc, length-append}
use Rattle.std.specs.Prelude.{Result, Ok, Err, OnOk}
use Rattle.std.proofs.lemmas.List.{take_at, drop_at, take-map, map-append, length-map, append-nil, get_or_at, get_or-append-add}
use Rattle.std.specs.Int.{w32, w64, to_be_bytes}
use Rattle.quorum_rules.specs.Limits.{Numbers}
use Rattle.node_core.specs.Seen.{SeenNode, new_node}
use Rattle.protocol.specs.Messages.{flat}
use Rattle.disk_model.specs.Crash.{Pending, MayLeave, LeavesOnly}
use Rattle.slot_disk.proofs.lemmas.Moments.{leaves_only_weaker}
use Rattle.version_disk.proofs.Opening.{unread}
use Rattle.slot_disk.specs.Bodies.{bodies, bodies_in, AreWithFirst}
use Rattle.slot_disk.specs.Slots.{Slot, body_len, body_of, slot_of, Fits, IsPieceOf, pieces_of}
use Rattle.version_disk.specs.Held.{after_slot, played, held, slots_of, first_bad, first_bad_from}
use Rattle.std.proofs.Common.{Bool}
use Rattle.version_disk.specs.Stored.{Stored}
use Rattle.version_disk.specs.Kept.{IsKept, AreGoodIn, HoldsOneOf, HoldsFirstOf}
use Rattle.slot_disk.proofs.lemmas.Codec.{length-flat, slot_of_body}
use Rattle.version_disk.proofs.lemmas.Playing.{played_append, good_append, held_config}

pub length-body_of : (c : Numbers) (s : Slot) → Fits c s → length (body_of s) ≡ body_len c
length-body_of c s fits =
    let v = s.version in
    let head = (s.kind ∷ []) ++ to_be_bytes w32 s.block ++ to_be_bytes w64 v.stamp.time ++ to_be_bytes w32 v.stamp.client in
    let long : length head ≡ 17 = refl in
    omega (arith, long, length-append (head ++ v.stamp.verifier ++ flat v.sum) v.fragment, length-append (head ++ v.stamp.verifier) (flat v.sum), length-append head v.stamp.verifier, fits.verifier, length-flat v.sum fits.digests, fits.count, fits.share)

-- a piece is a body and one byte 0
module _ (c : Numbers) (s : Slot) (piece : List ℕ) (fits : Fits c s) (is : IsPieceOf s piece) where
  pub piece_long : length piece ≡ body_len c + 1
  piece_long = omega (arith, ap length is, length-append (body_of s) (0 ∷ []), length-body_of c s fits)

  pub piece_zero : get_or piece (body_len c) 0 ≡ 0
  piece_zero = ap (λ (l : List ℕ). get_or l (body_len c) 0) is ∙ get_or_at (body_of s) 0 [] 0 (body_len c) (length-body_of c s fits)

  pub piece_body : take (body_len c) piece ≡ body_of s
  piece_body = ap (take (body_len c)) is ∙ take_at (body_of s) (0 ∷ []) (body_len c) (length-body_of c s fits)

-- pieces are bodies with one byte 0 behind each
module _ (c : Numbers) (number : ℕ) where
  pub bodies_in_pieces : (slots : List Slot) → AreGoodIn c number slots → bodies_in (body_len c) (length slots) (pieces_of slots) ≡ map body_of slots
  bodies_in_pieces [] good = refl
  bodies_in_pieces (s ∷ slots) good =
      let long = length-body_of c s good.0.fits in
      let rest = pieces_of slots in
      let front : take (body_len c) ((body_of s ++ 0 ∷ []) ++ rest) ≡ body_of s =
      ap (take (body_len c)) (append_assoc (body_of s) (0 ∷ []) rest) ∙ take_at (body_of s) ((0 ∷ []) ++ rest) (body_len c) long in
      let back : drop (body_len c + 1) ((body_of s ++ 0 ∷ []) ++ rest) ≡ rest =
      drop_at (body_of s ++ 0 ∷ []) rest (body_len c + 1) (omega (arith, length-append (body_of s) (0 ∷ []), long)) in
      ap (λ (l : List ℕ). l ∷ bodies_in (body_len c) (length slots) (drop (body_len c + 1) ((body_of s ++ 0 ∷ []) ++ rest))) front
      ∙ ap (λ (l : List ℕ). body_of s ∷ bodies_in (body_len c) (length slots) l) back
      ∙ ap (λ (l : List (List ℕ)). body_of s ∷ l) (bodies_in_pieces slots good.1)

  pub length-pieces_of : (slots : List Slot) → AreGoodIn c number slots → length (pieces_of slots) ≡ length slots * (body_len c + 1)
  length-pieces_of [] good = omega arith
  length-pieces_of (s ∷ slots) good =
      let long = length-body_of c s good.0.fits in
      let more : suc (length slots) * (body_len c + 1) ≡ length slots * (body_len c + 1) + (body_len c + 1) = omega arith in
      omega (arith, length-append (body_of s ++ 0 ∷ []) (pieces_of slots), length-append (body_of s) (0 ∷ []), length-pieces_of slots good.1)

  -- the last byte of them is 0
  pub last_of_pieces : (slots : List Slot) → AreGoodIn c number slots → 1 ≤ length slots → get_or (pieces_of slots) (length (pieces_of slots) - 1) 0 ≡ 0
  last_of_pieces [] good some = absurd (omega arith)
  last_of_pieces (s ∷ []) good some =
      let long = length-append (body_of s) (0 ∷ []) in
      let same : pieces_of (s ∷ []) ≡ body_of s ++ 0 ∷ [] = append-nil (body_of s ++ 0 ∷ []) in
      ap (λ (l : List ℕ). get_or l (length l - 1) 0) same ∙ get_or_at (body_of s) 0 [] 0 (length (body_of s ++ 0 ∷ []) - 1) (omega arith)
  last_of_pieces (s ∷ t ∷ slots) good some =
      let rest = pieces_of (t ∷ slots) in
      let size = length-pieces_of (t ∷ slots) good.1 in
      let more : suc (length slots) * (body_len c + 1) ≡ length slots * (body_len c + 1) + (body_len c + 1) = omega arith in
      let joined = length-append (body_of s ++ 0 ∷ []) rest in
      let place : length ((body_of s ++ 0 ∷ []) ++ rest) - 1 ≡ length (body_of s ++ 0 ∷ []) + (length rest - 1) = omega arith in
      ap (λ (n : ℕ). get_or ((body_of s ++ 0 ∷ []) ++ rest) n 0) place
      ∙ get_or-append-add (body_of s ++ 0 ∷ []) rest (length rest - 1) 0
      ∙ last_of_pieces (t ∷ slots) good.1 (omega arith)

  pub slots_of_bodies : (slots : List Slot) → AreGoodIn c number slots → map (slot_of c.n) (map body_of slots) ≡ slots
  slots_of_bodies [] good = refl
  slots_of_bodies (s ∷ slots) good =
      ap (λ (t : Slot). t ∷ map (slot_of c.n) (map body_of slots)) (slot_of_body c s good.0.fits) ∙ ap (λ (l : List Slot). s ∷ l) (slots_of_bodies slots good.1)

  good_take : (k : ℕ) (slots : List Slot) → AreGoodIn c number slots → AreGoodIn c number (take k slots)
  good_take zero slots good = tt
  good_take (suc k) [] good = tt
  good_take (suc k) (s ∷ slots) good = (good.0, good_take k slots good.1)

  -- bytes that have good slots more behind the old ones
  module _ (old left : List ℕ) (slots : List Slot) (good : AreGoodIn c number slots) (more : bodies (body_len c) left ≡ bodies (body_len c) old ++ map body_of slots) where
    pub slots_more : slots_of c left ≡ slots_of c old ++ slots
    slots_more = ap (map (slot_of c.n)) more ∙ map-append (slot_of c.n) (bodies (body_len c) old) (map body_of slots) ∙ ap (λ (l : List Slot). slots_of c old ++ l) (slots_of_bodies slots good)

    pub held_more : held c number left ≡ played (held c number old) slots
    held_more = ap (played (new_node c number)) slots_more ∙ played_append (new_node c number) (slots_of c old) slots

    pub good_more_slots : first_bad c number old ≡ None → first_bad c number left ≡ None
    good_more_slots none = ap (first_bad_from c number 0) slots_more ∙ good_append c number 0 (slots_of c old) slots good none

  -- what has the first few of the slots behind the old ones opens as the node after those
  pub opens : (old left : List ℕ) (slots : List Slot) → AreGoodIn c number slots → first_bad c number old ≡ None
      → AreWithFirst (body_len c) (bodies (body_len c) old) (map body_of slots) left → HoldsFirstOf c number (slots_of c old) (held c number old) slots left
  opens old left slots good none few =
      let first = take few.0 slots in
      let fine = good_take few.0 slots good in
      let more = few.2 ∙ ap (λ (l : List (List ℕ)). bodies (body_len c) old ++ l) (take-map body_of few.0 slots) in
      let le = few.1 in
      record {
        state = (few.0, omega (arith, length-map slots body_of), held_more old left first fine more);
        begins = (first, slots_more old left first fine more);
        good = good_more_slots old left first fine more none;
      }

-- of one slot more
pub holds_one : (c : Numbers) (number : ℕ) (slots : List Slot) (before : SeenNode) (s : Slot) (left : List ℕ) → HoldsFirstOf c number slots before (s ∷ []) left → HoldsOneOf c number slots before (after_slot before s) left
holds_one c number slots before s left holds = record { state = either holds.state.0 holds.state.1 holds.state.2; begins = holds.begins; good = holds.good }
  where
    either : (k : ℕ) → k ≤ 1 → held c number left ≡ played before (take k (s ∷ [])) → (held c number left ≡ before) ⊎ (held c number left ≡ after_slot before s)
    either zero le is = inl is
    either (suc zero) le is = inr is
    either (suc (suc k)) le is = absurd (omega arith)

-- three facts at Ok make a fourth
pub on_ok_three : {T E P Q S U : Type 0} (r : Result T E) → (P → Q → S → U) → OnOk r P → OnOk r Q → OnOk r S → OnOk r U
on_ok_three (Ok x) f p q s = f p q s
on_ok_three (Err e) f p q s = tt

-- bytes that are as before open as the node before
pub same_opens : (c : Numbers) (number : ℕ) (old : List ℕ) (node after : SeenNode) → node ≡ held c number old → first_bad c number old ≡ None → (left : List ℕ) → left ≡ old → HoldsOneOf c number (slots_of c old) node after left
same_opens c number old node after is none left same = record {
  state = inl (ap (held c number) same ∙ sym is);
  begins = ([], ap (slots_of c) same ∙ sym (append-nil (slots_of c old)));
  good = ap (first_bad c number) same ∙ none;
}

-- where nothing is done, a crash leaves the bytes as they are
pub unmoved : {D : Type 0} (moment : D → ℕ) (left_since : D → ℕ → List ℕ → Type 0) (pending : D → Pending) (seen : D → List ℕ) (old : D)
    → ((bytes : List ℕ) → left_since old (moment old) bytes → MayLeave (pending old) bytes)
    → (c : Numbers) (number count : ℕ) (node after : SeenNode) → IsKept pending seen c number node count old → LeavesOnly moment left_since old old (HoldsOneOf c number (slots_of c (seen old)) node after)
unmoved moment left_since pending seen old only_now c number count node after kept =
    leaves_only_weaker moment left_since old old _ (HoldsOneOf c number (slots_of c (seen old)) node after)
    (same_opens c number (seen old) node after kept.state kept.good)
    (unread moment left_since pending seen old only_now kept.durable)

-- the same of a node on a disk
pub unmoved_stored : {D : Type 0} (moment : D → ℕ) (left_since : D → ℕ → List ℕ → Type 0) (pending : D → Pending) (seen : D → List ℕ)
    → ((d : D) (bytes : List ℕ) → left_since d (moment d) bytes → MayLeave (pending d) bytes)
    → (node : SeenNode) (count : ℕ) (disk : D) (broken : Bool) (s : Stored D) (after : SeenNode → SeenNode)
    → ◌≡◌ {A = Stored D} (record { node = node; disk = disk; broken = broken }) s
    → (broken ≡ false → IsKept pending seen node.config node.number node count disk)
    → s.broken ≡ false → LeavesOnly moment left_since s.disk s.disk (HoldsOneOf s.node.config s.node.number (slots_of s.node.config (seen s.disk)) s.node (after s.node))
unmoved_stored {D} moment left_since pending seen only_now node count disk broken s after view kept =
    subst (λ (t : Stored D). t.broken ≡ false → LeavesOnly moment left_since t.disk t.disk (HoldsOneOf t.node.config t.node.number (slots_of t.node.config (seen t.disk)) t.node (after t.node))) view
    (λ whole. unmoved moment left_since pending seen disk (only_now disk) node.config node.number count node (after node) (kept whole))

-- a node that was opened knows its configuration and its number
pub kept_own : {D : Type 0} (pending : D → Pending) (seen : D → List ℕ) (c : Numbers) (number : ℕ) (node : SeenNode) (count : ℕ) (disk : D) → IsKept pending seen c number node count disk → IsKept pending seen node.config node.number node count disk
kept_own pending seen c number node count disk kept =
    let own = held_config c number (seen disk) node kept.state in
    subst (λ (k : Numbers). IsKept pending seen k node.number node count disk) (sym own.0) (subst (λ (m : ℕ). IsKept pending seen c m node count disk) (sym own.1) kept)
