-- How slots are played one after the other.
use Rattle.std.proofs.Common.{◌≡◌, ℕ, suc, ◌+◌, Bool, true, false, cond, not, eqb, List, [], ◌∷◌, ◌++◌, map, Option, Some, None, refl, sym, ◌∙◌, ap, arith}
use Rattle.quorum_rules.specs.Limits.{Numbers}
use Rattle.protocol.specs.Nodes.{pruned}
use Rattle.protocol.specs.Instance.{setting}
use Rattle.node_core.specs.Seen.{SeenNode, versions_in, with_versions, new_node, after_of}
use Rattle.slot_disk.specs.Slots.{Slot, slot_of}
use Rattle.version_disk.specs.Kept.{AreGoodIn}
use Rattle.version_disk.specs.Held.{after_slot, played, held, slots_of, written, is_bad, first_bad_from}

-- one slot more is played
pub play_more : (n : ℕ) (old new : SeenNode) (slot : Slot) (first : List ℕ) (all rest : List (List ℕ)) (end : SeenNode) → all ≡ first ∷ rest → slot ≡ slot_of n first → new ≡ after_slot old slot
    → played old (map (slot_of n) all) ≡ end → played new (map (slot_of n) rest) ≡ end
play_more n old new slot first all rest end split is made so_far =
    ap (λ (m : SeenNode). played m (map (slot_of n) rest)) (made ∙ ap (after_slot old) is)
    ∙ sym (ap (λ (bs : List (List ℕ)). played old (map (slot_of n) bs)) split) ∙ so_far

not_bad : (good bad : Bool) → good ≡ not bad → good ≡ true → bad ≡ false
not_bad good true e t = cc
not_bad good false e t = refl

-- and it isn't bad
pub good_more : (c d : Numbers) (number other : ℕ) (slot : Slot) (good : Bool) (count : ℕ) (first : List ℕ) (all rest : List (List ℕ)) (end : Option ℕ) → all ≡ first ∷ rest → slot ≡ slot_of c.n first
    → d ≡ c → other ≡ number → good ≡ not (is_bad d other slot) → good ≡ true
    → first_bad_from c number count (map (slot_of c.n) all) ≡ end → first_bad_from c number (count + 1) (map (slot_of c.n) rest) ≡ end
good_more c d number other slot good count first all rest end split is same same_number tells passes so_far =
    let fine : is_bad c number (slot_of c.n first) ≡ false =
    sym ((λ i. is_bad (same i) (same_number i) (is i))) ∙ not_bad good (is_bad d other slot) tells passes in
    let next : count + 1 ≡ suc count = omega arith in
    ap (λ (k : ℕ). first_bad_from c number k (map (slot_of c.n) rest)) next
    ∙ sym (ap (λ (b : Bool). cond b (Some count) (first_bad_from c number (suc count) (map (slot_of c.n) rest))) fine)
    ∙ sym (ap (λ (bs : List (List ℕ)). first_bad_from c number count (map (slot_of c.n) bs)) split) ∙ so_far

head_good : (bad : Bool) (i : ℕ) (rest : Option ℕ) → cond bad (Some i) rest ≡ None → (bad ≡ false) × (rest ≡ None)
head_good true i rest none = absurd cc
head_good false i rest none = (refl, none)

-- slots behind others are played after them
pub played_append : (node : SeenNode) (slots new : List Slot) → played node (slots ++ new) ≡ played (played node slots) new
played_append node [] new = refl
played_append node (t ∷ slots) new = played_append (after_slot node t) slots new

-- good slots at the end leave no bad one
pub all_good : (c : Numbers) (number i : ℕ) (new : List Slot) → AreGoodIn c number new → first_bad_from c number i new ≡ None
all_good c number i [] good = refl
all_good c number i (t ∷ new) good = ap (λ (b : Bool). cond b (Some i) (first_bad_from c number (suc i) new)) good.0.fine ∙ all_good c number (suc i) new good.1

pub good_append : (c : Numbers) (number i : ℕ) (slots new : List Slot) → AreGoodIn c number new → first_bad_from c number i slots ≡ None → first_bad_from c number i (slots ++ new) ≡ None
good_append c number i [] new good none = all_good c number i new good
good_append c number i (t ∷ slots) new good none =
    let h = head_good (is_bad c number t) i (first_bad_from c number (suc i) slots) none in
    ap (λ (b : Bool). cond b (Some i) (first_bad_from c number (suc i) (slots ++ new))) h.0 ∙ good_append c number (suc i) slots new good h.1

slot_config : (node : SeenNode) (s : Slot) → ((after_slot node s).config ≡ node.config) × ((after_slot node s).number ≡ node.number)
slot_config node s = either (eqb s.kind 0)
  where
    either : (b : Bool) → ((cond b (with_versions node s.block (after_of node (written s))) (with_versions node s.block (pruned (setting node.config) s.version.stamp (versions_in node s.block)))).config ≡ node.config)
        × ((cond b (with_versions node s.block (after_of node (written s))) (with_versions node s.block (pruned (setting node.config) s.version.stamp (versions_in node s.block)))).number ≡ node.number)
    either true = (refl, refl)
    either false = (refl, refl)

-- slots change neither the configuration nor the number
pub played_config : (node : SeenNode) (slots : List Slot) → ((played node slots).config ≡ node.config) × ((played node slots).number ≡ node.number)
played_config node [] = (refl, refl)
played_config node (s ∷ slots) =
    let h = played_config (after_slot node s) slots in
    let one = slot_config node s in
    (h.0 ∙ one.0, h.1 ∙ one.1)

pub held_config : (c : Numbers) (number : ℕ) (bytes : List ℕ) (node : SeenNode) → node ≡ held c number bytes → (node.config ≡ c) × (node.number ≡ number)
held_config c number bytes node is =
    let h = played_config (new_node c number) (slots_of c bytes) in
    (ap (λ (m : SeenNode). m.config) is ∙ h.0, ap (λ (m : SeenNode). m.number) is ∙ h.1)
