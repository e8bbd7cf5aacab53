-- The bytes of the shortest journal of a node.
use Rattle.std.proofs.Common.{◌≡◌, ℕ, zero, suc, ◌+◌, ◌*◌, ◌≤◌, ◌<◌, Bool, false, cond, ltb, List, [], ◌∷◌, ◌++◌, map, length, get_or, take, drop, Option, Some, None, refl, sym, ◌∙◌, ap, subst, arith, append_assoc, length-append}
use Rattle.std.specs.List.{AllByRecursion, slice_get, slice_index_or}
use Rattle.std.specs.Option.{option_map}
use Rattle.std.proofs.lemmas.Bool.{lt-ltb}
use Rattle.std.proofs.lemmas.List.{append-nil, get_or_at, length-map, take_all, drop_all}
use Rattle.disk_model.specs.Crash.{overwritten}
use Rattle.std.proofs.lemmas.Option.{slice_get-map}
use Rattle.quorum_rules.specs.Limits.{Numbers}
use Rattle.protocol.specs.Messages.{Version, Reason}
use Rattle.protocol.specs.Instance.{setting}
use Rattle.protocol.specs.Nodes.{first_version, refusal, acknowledged}
use Rattle.wire_forms.specs.declared.Reply.TheVariants.{Refused}
use Rattle.wire_forms.specs.declared.Reason.TheVariants.{BadBlock}
use Rattle.node_core.specs.Seen.{SeenNode, new_node}
use Rattle.slot_disk.specs.Bodies.{bodies, IsClosedAt}
use Rattle.slot_disk.specs.Slots.{Slot, version_slot, body_of, body_len, slot_of, Fits}
use Rattle.version_disk.specs.Held.{played, held, slots_of, is_refusal, first_bad, first_bad_from}
use Rattle.version_disk.specs.Kept.{IsGoodIn, AreGoodIn}
use Rattle.version_disk.specs.Compacted.{slots_in, slots_from, kept_slots, open_slots, compacted_len, IsWhole, AreWhole, AreFitting}
use Rattle.version_disk.proofs.Accepting.{refusal_lengths}
use Rattle.slot_disk.proofs.lemmas.Bodies.{chain, AreLong, bodies_closed}
use Rattle.version_disk.proofs.Compacting.{Follow, IsGrown, IsGrownNode, held_grown, kept_played}
use Rattle.slot_disk.proofs.lemmas.Gates.{mul_le, gate_below}
use Rattle.version_disk.proofs.Keeping.{length-body_of, slots_of_bodies}
use Rattle.version_disk.proofs.lemmas.Playing.{all_good}

module _ (P : Slot → Type 0) where
  pub both : (xs ys : List Slot) → AllByRecursion P xs → AllByRecursion P ys → AllByRecursion P (xs ++ ys)
  both [] ys all more = more
  both (x ∷ xs) ys all more = (all.0, both xs ys all.1 more)

  first_of_both : (xs ys : List Slot) → AllByRecursion P (xs ++ ys) → AllByRecursion P xs
  first_of_both [] ys all = tt
  first_of_both (x ∷ xs) ys all = (all.0, first_of_both xs ys all.1)

  second_of_both : (xs ys : List Slot) → AllByRecursion P (xs ++ ys) → AllByRecursion P ys
  second_of_both [] ys all = all
  second_of_both (x ∷ xs) ys all = second_of_both xs ys all.1

  pub by_number : (xs : List Slot) (k : ℕ) (x : Slot) → AllByRecursion P xs → slice_get xs k ≡ Some x → P x
  by_number [] k x all is = absurd (cc)
  by_number (y ∷ xs) zero x all is = let same : y ≡ x = cc in subst P same all.0
  by_number (y ∷ xs) (suc k) x all is = by_number xs k x all.1 is

  -- those of a block are among those of all
  pub of_block : (blocks : List (List Version)) (i k : ℕ) → k < length blocks → AllByRecursion P (slots_from i blocks) → AllByRecursion P (slots_in (i + k) (slice_index_or blocks k []))
  of_block [] i k below all = absurd (omega arith)
  of_block (vs ∷ blocks) i zero below all =
      let same : i ≡ i + 0 = omega arith in
      subst (λ (n : ℕ). AllByRecursion P (slots_in n vs)) same (first_of_both (slots_in i vs) (slots_from (suc i) blocks) all)
  of_block (vs ∷ blocks) i (suc k) below all =
      let same : suc i + k ≡ i + suc k = omega arith in
      subst (λ (n : ℕ). AllByRecursion P (slots_in n (slice_index_or blocks k []))) same (of_block blocks (suc i) k (omega arith) (second_of_both (slots_in i vs) (slots_from (suc i) blocks) all))

-- open slots behind others
pub open_append : (xs ys : List Slot) → open_slots (xs ++ ys) ≡ open_slots xs ++ open_slots ys
open_append [] ys = refl
open_append (s ∷ xs) ys = ap (λ (l : List ℕ). (1 ∷ body_of s) ++ l) (open_append xs ys) ∙ sym (append_assoc (1 ∷ body_of s) (open_slots xs) (open_slots ys))

-- one element more
pub take_more : {A : Type 0} (xs : List A) (k : ℕ) (x : A) → slice_get xs k ≡ Some x → take (k + 1) xs ≡ take k xs ++ x ∷ []
take_more xs k x is = let next : k + 1 ≡ suc k = omega arith in ap (λ (n : ℕ). take n xs) next ∙ at xs k is
  where
    at : {A : Type 0} (ys : List A) (j : ℕ) {y : A} → slice_get ys j ≡ Some y → take (suc j) ys ≡ take j ys ++ y ∷ []
    at [] j {y} e = absurd (cc)
    at (z ∷ ys) zero {y} e = let same : z ≡ y = cc in ap (λ w. w ∷ []) same
    at (z ∷ ys) (suc j) {y} e = ap (λ l. z ∷ l) (at ys j e)

pub open_more : (xs : List Slot) (k : ℕ) (s : Slot) → slice_get xs k ≡ Some s → open_slots (take (k + 1) xs) ≡ open_slots (take k xs) ++ (1 ∷ body_of s)
open_more xs k s is =
    ap open_slots (take_more xs k s is) ∙ open_append (take k xs) (s ∷ []) ∙ ap (λ (l : List ℕ). open_slots (take k xs) ++ l) (append-nil (1 ∷ body_of s))

pub fitting_more : (P : Slot → Type 0) (xs : List Slot) (k : ℕ) (s : Slot) → slice_get xs k ≡ Some s → AllByRecursion P (take k xs) → P s → AllByRecursion P (take (k + 1) xs)
fitting_more P xs k s is all one = subst (AllByRecursion P) (sym (take_more xs k s is)) (both P (take k xs) (s ∷ []) all (one, tt))

-- version k after the first one
pub slot_numbered : (block : ℕ) (vs : List Version) (k : ℕ) (v : Version) → slice_get vs (k + 1) ≡ Some v → slice_get (slots_in block vs) k ≡ Some (version_slot block v)
slot_numbered block [] k v is = absurd (cc)
slot_numbered block (first ∷ vs) k v is =
    let next : k + 1 ≡ suc k = omega arith in
    let here : slice_get vs k ≡ Some v = subst (λ (n : ℕ). slice_get (first ∷ vs) n ≡ Some v) next is in
    slice_get-map (version_slot block) vs k ∙ ap (option_map (version_slot block)) here

pub length-slots_in : (block : ℕ) (vs : List Version) (n : ℕ) → n + 1 ≡ length vs → length (slots_in block vs) ≡ n
length-slots_in block [] n is = absurd (omega arith)
length-slots_in block (first ∷ vs) n is = omega (arith, length-map vs (version_slot block))

-- the blocks before one, and that one
pub block_more : (blocks : List (List Version)) (i k : ℕ) → k < length blocks → slots_from i (take (suc k) blocks) ≡ slots_from i (take k blocks) ++ slots_in (i + k) (slice_index_or blocks k [])
block_more [] i k below = absurd (omega arith)
block_more (vs ∷ blocks) i zero below = let same : i ≡ i + 0 = omega arith in append-nil (slots_in i vs) ∙ ap (λ (n : ℕ). slots_in n vs) same
block_more (vs ∷ blocks) i (suc k) below =
    let same : suc i + k ≡ i + suc k = omega arith in
    let rest = slice_index_or blocks k [] in
    ap (λ (l : List Slot). slots_in i vs ++ l) (block_more blocks (suc i) k (omega arith) ∙ ap (λ (n : ℕ). slots_from (suc i) (take k blocks) ++ slots_in n rest) same)
    ∙ sym (append_assoc (slots_in i vs) (slots_from (suc i) (take k blocks)) (slots_in (i + suc k) rest))

pub no_more_blocks : (blocks : List (List Version)) (i k : ℕ) → k < length blocks → length (slots_from i (take k blocks)) + length (slots_in (i + k) (slice_index_or blocks k [])) ≤ length (slots_from i blocks)
no_more_blocks [] i k below = absurd (omega arith)
no_more_blocks (vs ∷ blocks) i zero below =
    let same : i + 0 ≡ i = omega arith in
    let e = ap (λ (n : ℕ). length (slots_in n vs)) same in
    omega (arith, length-append (slots_in i vs) (slots_from (suc i) blocks))
no_more_blocks (vs ∷ blocks) i (suc k) below =
    let same : i + suc k ≡ suc i + k = omega arith in
    let e = ap (λ (n : ℕ). length (slots_in n (slice_index_or blocks k []))) same in
    let le = no_more_blocks blocks (suc i) k (omega arith) in
    omega (arith, length-append (slots_in i vs) (slots_from (suc i) blocks), length-append (slots_in i vs) (slots_from (suc i) (take k blocks)))

module _ (c : Numbers) where
  pub length-open_slots : (slots : List Slot) → AreFitting c slots → length (open_slots slots) ≡ length slots * (body_len c + 1)
  length-open_slots [] fits = omega arith
  length-open_slots (s ∷ slots) fits =
      let more : suc (length slots) * (body_len c + 1) ≡ length slots * (body_len c + 1) + (body_len c + 1) = omega arith in
      omega (arith, length-append (1 ∷ body_of s) (open_slots slots), length-body_of c s fits.0, length-open_slots slots fits.1)

  chain_open : (slots : List Slot) → chain (map body_of slots) ≡ open_slots slots
  chain_open [] = refl
  chain_open (s ∷ slots) = ap (λ (l : List ℕ). 1 ∷ (body_of s ++ l)) (chain_open slots)

  are_long : (slots : List Slot) → AreFitting c slots → AreLong (body_len c) (map body_of slots)
  are_long [] fits = tt
  are_long (s ∷ slots) fits = (length-body_of c s fits.0, are_long slots fits.1)

  pub journal_bodies : (slots : List Slot) (bytes : List ℕ) → AreFitting c slots → bytes ≡ open_slots slots ++ 0 ∷ [] → bodies (body_len c) bytes ≡ map body_of slots
  journal_bodies slots bytes fits is =
      ap (bodies (body_len c)) (is ∙ ap (λ (l : List ℕ). l ++ 0 ∷ []) (sym (chain_open slots))) ∙ bodies_closed (body_len c) (map body_of slots) 0 [] (are_long slots fits) (omega arith)

  pub length-journal : (slots : List Slot) (bytes : List ℕ) → AreFitting c slots → bytes ≡ open_slots slots ++ 0 ∷ [] → length bytes ≡ length slots * (body_len c + 1) + 1
  length-journal slots bytes fits is = omega (arith, ap length is, length-append (open_slots slots) (0 ∷ []), length-open_slots slots fits)

  module _ (number : ℕ) where
    -- what is so of each version that would be accepted is so of each slot
    module _ (P : Slot → Type 0) (each : (block : ℕ) (v : Version) → block < c.blocks → refusal (setting c) number v ≡ None → P (version_slot block v)) where
      of_versions : (block : ℕ) (front vs : List Version) → block < c.blocks → Follow (setting c) number front vs → AllByRecursion P (map (version_slot block) vs)
      of_versions block front [] below follow = tt
      of_versions block front (v ∷ vs) below follow = (each block v below follow.0, of_versions block (front ++ v ∷ []) vs below follow.2)

      of_blocks : (i : ℕ) (blocks : List (List Version)) → i + length blocks ≤ c.blocks → AllByRecursion (IsGrown (setting c) number) blocks → AllByRecursion P (slots_from i blocks)
      of_blocks i [] le grown = tt
      of_blocks i (vs ∷ blocks) le grown =
          let g = grown.0 in
          both P (slots_in i vs) (slots_from (suc i) blocks)
          (subst (λ (l : List Version). AllByRecursion P (slots_in i l)) (sym g.begins) (of_versions i (first_version (setting c) number ∷ []) g.rest (omega arith) g.follow))
          (of_blocks (suc i) blocks (omega arith) grown.1)

      pub of_kept : (node : SeenNode) → IsGrownNode c number node → AllByRecursion P (kept_slots node)
      of_kept node is = of_blocks 0 node.blocks (let count = is.count in omega arith) is.grown

    pub kept_whole : (node : SeenNode) → IsGrownNode c number node → AreWhole c (kept_slots node)
    kept_whole = of_kept (IsWhole c) (λ block v below fine. let h = refusal_lengths c number v fine in record { count = h.0; share = h.1 })

    fine_slot : (block : ℕ) (v : Version) → block < c.blocks → refusal (setting c) number v ≡ None → is_refusal (cond (ltb block c.blocks) (acknowledged (refusal (setting c) number v)) (Refused BadBlock)) ≡ false
    fine_slot block v below fine =
        ap (λ (b : Bool). is_refusal (cond b (acknowledged (refusal (setting c) number v)) (Refused BadBlock))) (lt-ltb block c.blocks below)
        ∙ ap (λ (o : Option Reason). is_refusal (acknowledged o)) fine

    -- fitting slots of them are good
    good_if : (slots : List Slot) → AllByRecursion (λ (s : Slot). Fits c s → IsGoodIn c number s) slots → AreFitting c slots → AreGoodIn c number slots
    good_if [] all fits = tt
    good_if (s ∷ slots) all fits = (all.0 fits.0, good_if slots all.1 fits.1)

    pub kept_good : (node : SeenNode) → IsGrownNode c number node → AreFitting c (kept_slots node) → AreGoodIn c number (kept_slots node)
    kept_good node is fits =
        good_if (kept_slots node) (of_kept (λ (s : Slot). Fits c s → IsGoodIn c number s) (λ block v below fine fit. record { fits = fit; fine = fine_slot block v below fine }) node is) fits

    -- the journal holds the node
    module _ (node : SeenNode) (is : IsGrownNode c number node) (fits : AreFitting c (kept_slots node)) (bytes : List ℕ) (journal : bytes ≡ open_slots (kept_slots node) ++ 0 ∷ []) where
      good : AreGoodIn c number (kept_slots node)
      good = kept_good node is fits

      pub journal_slots : slots_of c bytes ≡ kept_slots node
      journal_slots = ap (map (slot_of c.n)) (journal_bodies (kept_slots node) bytes fits journal) ∙ slots_of_bodies c number (kept_slots node) good

      pub journal_held : held c number bytes ≡ node
      journal_held = ap (played (new_node c number)) journal_slots ∙ kept_played c number node is

      pub journal_good : first_bad c number bytes ≡ None
      journal_good = ap (first_bad_from c number 0) journal_slots ∙ all_good c number 0 (kept_slots node) good

      -- the gate behind them is closed
      pub journal_closed : IsClosedAt (body_len c) bytes (length (kept_slots node))
      journal_closed =
          let gate = length (kept_slots node) * (body_len c + 1) in
          let zero : get_or bytes gate 0 ≡ 0 =
          ap (λ (l : List ℕ). get_or l gate 0) journal ∙ get_or_at (open_slots (kept_slots node)) 0 [] 0 gate (length-open_slots (kept_slots node) fits) in
          record {
            counted = sym (ap length (journal_bodies (kept_slots node) bytes fits journal) ∙ length-map (kept_slots node) body_of);
            there = omega (arith, length-journal (kept_slots node) bytes fits journal);
            closed = λ one. let bad : 0 ≡ 1 = sym zero ∙ one in absurd (cc);
          }

-- a journal has no more slots than bytes
pub few_slots : (node : SeenNode) → length (kept_slots node) < compacted_len node
few_slots node =
    let count = length (kept_slots node) in
    let split : count * (body_len node.config + 1) ≡ count * body_len node.config + count = omega arith in
    omega (arith, split)

-- a node whose disk holds its state is one that can come about
pub own_grown : (node : SeenNode) (bytes : List ℕ) → node ≡ held node.config node.number bytes → IsGrownNode node.config node.number node
own_grown node bytes is = subst (IsGrownNode node.config node.number) (sym is) (held_grown node.config node.number bytes)

-- a piece that is written at the end
pub written_at_end : (bytes piece : List ℕ) (end : ℕ) → end ≡ length bytes → overwritten bytes end piece ≡ bytes ++ piece
written_at_end bytes piece end is =
    ap (λ (l : List ℕ). l ++ piece ++ drop (end + length piece) bytes) (take_all end bytes (omega arith))
    ∙ ap (λ (l : List ℕ). bytes ++ piece ++ l) (drop_all (end + length piece) bytes (omega arith))
    ∙ append-nil (bytes ++ piece)

-- there is a version for each number below the count
pub kth_there : (vs : List Version) (k n : ℕ) → n + 1 ≡ length vs → k < n → None ≡ slice_get vs (k + 1) → ⊥
kth_there vs k n count below none = let there = slice_get_past_not vs (k + 1) (omega arith) in there (sym none)
  where
    slice_get_past_not : (us : List Version) (j : ℕ) → j < length us → slice_get us j ≡ None → ⊥
    slice_get_past_not [] j lt e = omega arith
    slice_get_past_not (u ∷ us) zero lt e = cc
    slice_get_past_not (u ∷ us) (suc j) lt e = slice_get_past_not us j (omega arith) e

-- a slot more behind what stands and what is ahead
pub one_behind : (seen ahead : List ℕ) (body : List ℕ) → seen ++ ((ahead ++ 1 ∷ []) ++ body) ≡ (seen ++ ahead) ++ (1 ∷ body)
one_behind seen ahead body = simp append_assoc

pub length-one_behind : (c : Numbers) (s : Slot) (seen ahead : List ℕ) → Fits c s → length (seen ++ ((ahead ++ 1 ∷ []) ++ body_of s)) ≡ length (seen ++ ahead) + (body_len c + 1)
length-one_behind c s seen ahead fits = omega (arith, ap length (one_behind seen ahead (body_of s)), length-append (seen ++ ahead) (1 ∷ body_of s), length-body_of c s fits)

-- so many slots have place where all of them have
pub have_place : (w start k n most : ℕ) → k < n → start + n * (w + 1) ≤ most → start + k * (w + 1) + (w + 1) ≤ most
have_place w start k n most lt fits = let le = gate_below w k n lt in omega arith

-- the slots of the first few blocks, and those of the next
module _ (c : Numbers) (blocks : List (List Version)) (k : ℕ) (below : k < length blocks) where
  pub of_next : (P : Slot → Type 0) → AllByRecursion P (slots_from 0 blocks) → AllByRecursion P (slots_in k (slice_index_or blocks k []))
  of_next P all = let same : 0 + k ≡ k = omega arith in subst (λ (n : ℕ). AllByRecursion P (slots_in n (slice_index_or blocks k []))) same (of_block P blocks 0 k below all)

  pub with_next : slots_from 0 (take (k + 1) blocks) ≡ slots_from 0 (take k blocks) ++ slots_in k (slice_index_or blocks k [])
  with_next =
      let next : k + 1 ≡ suc k = omega arith in
      let same : 0 + k ≡ k = omega arith in
      ap (λ (n : ℕ). slots_from 0 (take n blocks)) next ∙ block_more blocks 0 k below ∙ ap (λ (n : ℕ). slots_from 0 (take k blocks) ++ slots_in n (slice_index_or blocks k [])) same

  pub next_fits : (most : ℕ) → AreFitting c (slots_from 0 (take k blocks)) → length (slots_from 0 blocks) * (body_len c + 1) + 1 ≤ most
      → length (open_slots (slots_from 0 (take k blocks))) + length (slots_in k (slice_index_or blocks k [])) * (body_len c + 1) ≤ most
  next_fits most fits le =
      let same : 0 + k ≡ k = omega arith in
      let count = subst (λ (n : ℕ). length (slots_from 0 (take k blocks)) + length (slots_in n (slice_index_or blocks k [])) ≤ length (slots_from 0 blocks)) same (no_more_blocks blocks 0 k below) in
      let long = length-open_slots c (slots_from 0 (take k blocks)) fits in
      let all = mul_le (body_len c) (length (slots_from 0 (take k blocks)) + length (slots_in k (slice_index_or blocks k []))) (length (slots_from 0 blocks)) count in
      let split : (length (slots_from 0 (take k blocks)) + length (slots_in k (slice_index_or blocks k []))) * (body_len c + 1) ≡ length (slots_from 0 (take k blocks)) * (body_len c + 1) + length (slots_in k (slice_index_or blocks k [])) * (body_len c + 1) = omega arith in
      omega arith
