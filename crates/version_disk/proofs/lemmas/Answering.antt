-- Asks that are answered one after the other, and what they add.
use Rattle.std.proofs.Common.{◌≡◌, ℕ, ◌+◌, List, [], ◌∷◌, ◌++◌, length, Option, Some, None, refl, sym, ◌∙◌, ap, subst, arith, append_assoc, length-append}
use Rattle.std.specs.Prelude.{Result, Ok, Err, OnOk}
use Rattle.std.proofs.lemmas.List.{append-nil, map-append}
use Rattle.quorum_rules.specs.Limits.{Numbers}
use Rattle.protocol.specs.Count.{one_more}
use Rattle.protocol.specs.Messages.{Version, Ask, Reply}
use Rattle.node_core.specs.Seen.{SeenNode, versions_in, with_versions, reply_of, accepts_of}
use Rattle.node_core.specs.Past.{Addition}
use Rattle.node_core.proofs.lemmas.Blocks.{node_same}
use Rattle.slot_disk.specs.Slots.{Slot, version_slot, pieces_of, body_of, Fits}
use Rattle.version_disk.specs.Kept.{IsGoodIn, AreGoodIn}
use Rattle.version_disk.specs.Deeds.{Deed, Answers, Prunes, after_deed, slots_by, added_slots, slots_among, after_deeds, slots_by_deeds, answering, after_asks, replies_of, slots_by_all}
use Rattle.version_disk.specs.Undone.{undone, LeadTo}
use Rattle.version_disk.specs.Batches.{IsBatchOf}
use Rattle.version_disk.specs.declared.batch.Batch.{Batch}
use Rattle.version_disk.proofs.Accepting.{version_slots, version_good}

-- one deed more, at the end
pub deeds_push : (node : SeenNode) (deeds : List Deed) (deed : Deed) → after_deeds node (deeds ++ deed ∷ []) ≡ after_deed (after_deeds node deeds) deed
deeds_push node [] deed = refl
deeds_push node (d ∷ deeds) deed = deeds_push (after_deed node d) deeds deed

pub slots_push : (node : SeenNode) (deeds : List Deed) (deed : Deed) → slots_by_deeds node (deeds ++ deed ∷ []) ≡ slots_by_deeds node deeds ++ slots_among (after_deeds node deeds) deed
slots_push node [] deed = append-nil (slots_among node deed)
slots_push node (d ∷ deeds) deed =
    ap (λ (l : List Slot). slots_among node d ++ l) (slots_push (after_deed node d) deeds deed)
    ∙ sym (append_assoc (slots_among node d) (slots_by_deeds (after_deed node d) deeds) (slots_among (after_deeds (after_deed node d) deeds) deed))

pub deeds_config : (node : SeenNode) (deeds : List Deed) → ((after_deeds node deeds).config ≡ node.config) × ((after_deeds node deeds).number ≡ node.number)
deeds_config node [] = (refl, refl)
deeds_config node (Answers ask ∷ deeds) = deeds_config (after_deed node (Answers ask)) deeds
deeds_config node (Prunes block stamp ∷ deeds) = deeds_config (after_deed node (Prunes block stamp)) deeds

-- one ask more, at the end
one_more_ask : (asks : List Ask) (ask : Ask) → answering (asks ++ ask ∷ []) ≡ answering asks ++ Answers ask ∷ []
one_more_ask asks ask = map-append Answers asks (ask ∷ [])

replies_push : (node : SeenNode) (asks : List Ask) (ask : Ask) → replies_of node (asks ++ ask ∷ []) ≡ replies_of node asks ++ reply_of (after_asks node asks) ask ∷ []
replies_push node [] ask = refl
replies_push node (a ∷ asks) ask = ap (λ (l : List Reply). reply_of node a ∷ l) (replies_push (after_deed node (Answers a)) asks ask)

pub after_config : (node : SeenNode) (asks : List Ask) → ((after_asks node asks).config ≡ node.config) × ((after_asks node asks).number ≡ node.number)
after_config node asks = deeds_config node (answering asks)

-- an ask that adds nothing changes nothing
pub nothing_added : (node : SeenNode) (ask : Ask) → None ≡ accepts_of node ask → node ≡ after_deed node (Answers ask)
nothing_added node ask none = node_same node ask.block ∙ ap (λ (o : Option Version). with_versions node ask.block (one_more (versions_in node ask.block) o)) none

pub no_slots : (node : SeenNode) (ask : Ask) → None ≡ accepts_of node ask → slots_by node (Answers ask) ≡ []
no_slots node ask none = ap (added_slots ask.block) (sym none)

-- pieces behind others
pub pieces_append : (slots new : List Slot) → pieces_of (slots ++ new) ≡ pieces_of slots ++ pieces_of new
pieces_append [] new = refl
pieces_append (s ∷ slots) new = ap (λ (l : List ℕ). (body_of s ++ 0 ∷ []) ++ l) (pieces_append slots new) ∙ sym (append_assoc (body_of s ++ 0 ∷ []) (pieces_of slots) (pieces_of new))

pub good_both : (c : Numbers) (number : ℕ) (slots new : List Slot) → AreGoodIn c number slots → AreGoodIn c number new → AreGoodIn c number (slots ++ new)
good_both c number [] new good fine = fine
good_both c number (s ∷ slots) new good fine = (good.0, good_both c number slots new good.1 fine)

-- one ask more in a batch
module _ (start node then : SeenNode) (asks : List Ask) (ask : Ask) (old new : Batch) (is : IsBatchOf start asks node old) where
  told : new.replies ≡ old.replies ++ reply_of node ask ∷ [] → new.replies ≡ replies_of start (asks ++ ask ∷ [])
  told more =
      more ∙ ap (λ (l : List Reply). l ++ reply_of node ask ∷ []) is.replies
      ∙ ap (λ (n : SeenNode). replies_of start asks ++ reply_of n ask ∷ []) is.state ∙ sym (replies_push start asks ask)

  stands : then ≡ after_deed node (Answers ask) → then ≡ after_asks start (asks ++ ask ∷ [])
  stands after = after ∙ ap (λ (n : SeenNode). after_deed n (Answers ask)) is.state ∙ sym (ap (after_deeds start) (one_more_ask asks ask) ∙ deeds_push start (answering asks) (Answers ask))

  all_of_slots : (added : List Slot) → slots_by node (Answers ask) ≡ added → slots_by_all start (asks ++ ask ∷ []) ≡ slots_by_all start asks ++ added
  all_of_slots added are = ap (slots_by_deeds start) (one_more_ask asks ask) ∙ slots_push start (answering asks) (Answers ask) ∙ ap (λ (n : SeenNode). slots_by_all start asks ++ slots_by n (Answers ask)) (sym is.state) ∙ ap (λ (l : List Slot). slots_by_all start asks ++ l) are

  -- with the slots that it writes
  with_slots : (added : List Slot) → slots_by node (Answers ask) ≡ added → AreGoodIn start.config start.number added
      → then ≡ after_deed node (Answers ask) → new.replies ≡ old.replies ++ reply_of node ask ∷ [] → new.pieces.items ≡ old.pieces.items ++ pieces_of added
      → length new.added.items ≡ length old.added.items + length added → IsBatchOf start (asks ++ ask ∷ []) then new
  with_slots added are good after more pieces count =
      let all = all_of_slots added are in
      let before = is.count in
      record {
        state = stands after;
        replies = told more;
        pieces = pieces ∙ ap (λ (l : List ℕ). l ++ pieces_of added) is.pieces ∙ sym (pieces_append (slots_by_all start asks) added) ∙ ap pieces_of (sym all);
        count = omega (arith, ap length all, length-append (slots_by_all start asks) added);
        good = subst (AreGoodIn start.config start.number) (sym all) (good_both start.config start.number (slots_by_all start asks) added is.good good);
      }

  pub one_refused : None ≡ accepts_of node ask → then ≡ node → new.replies ≡ old.replies ++ reply_of node ask ∷ [] → new.pieces.items ≡ old.pieces.items → new.added.items ≡ old.added.items → IsBatchOf start (asks ++ ask ∷ []) then new
  one_refused none same more pieces added =
      with_slots [] (no_slots node ask none) tt (same ∙ nothing_added node ask none) more (pieces ∙ sym (append-nil old.pieces.items)) (omega (arith, ap length added))

  pub one_accepted : (v : Version) → Some v ≡ accepts_of node ask → Fits node.config (version_slot ask.block v)
      → then ≡ after_deed node (Answers ask) → new.replies ≡ old.replies ++ reply_of node ask ∷ [] → new.pieces.items ≡ old.pieces.items ++ (body_of (version_slot ask.block v) ++ 0 ∷ [])
      → length new.added.items ≡ length old.added.items + 1 → IsBatchOf start (asks ++ ask ∷ []) then new
  one_accepted v some fits after more pieces count =
      let own = after_config start asks in
      let config : node.config ≡ start.config = ap (λ (n : SeenNode). n.config) is.state ∙ own.0 in
      let number : node.number ≡ start.number = ap (λ (n : SeenNode). n.number) is.state ∙ own.1 in
      let slot = version_slot ask.block v in
      let good : IsGoodIn start.config start.number slot =
      subst (λ (c : Numbers). IsGoodIn c start.number slot) config (subst (λ (i : ℕ). IsGoodIn node.config i slot) number (version_good node ask v some fits)) in
      with_slots (slot ∷ []) (version_slots node ask v some) (good, tt) after more
      (pieces ∙ ap (λ (l : List ℕ). old.pieces.items ++ l) (sym (append-nil (body_of slot ++ 0 ∷ [])))) count

-- four facts at Ok make a fifth
pub on_ok_four : {T E P Q S U V : Type 0} (r : Result T E) → (P → Q → S → U → V) → OnOk r P → OnOk r Q → OnOk r S → OnOk r U → OnOk r V
on_ok_four (Ok x) f p q s u = f p q s u
on_ok_four (Err e) f p q s u = tt

-- nothing was asked yet
pub empty_batch : (node : SeenNode) (batch : Batch) → batch.replies ≡ [] → batch.pieces.items ≡ [] → batch.added.items ≡ [] → IsBatchOf node [] node batch
empty_batch node batch replies pieces added = record { state = refl; replies = replies; pieces = pieces; count = ap length added; good = tt }

-- one addition more
pub undone_push : (node : SeenNode) (added : List Addition) (a : Addition) → undone node (added ++ a ∷ []) ≡ undone a.before added
undone_push node [] a = refl
undone_push node (x ∷ added) a = refl

pub led_push : (node : SeenNode) (added : List Addition) (a : Addition) → LeadTo a.before added → a.after ≡ node → LeadTo node (added ++ a ∷ [])
led_push node [] a led is = (is, tt)
led_push node (x ∷ added) a led is = (led.0 ∙ sym (undone_push node added a), led_push node added a led.1 is)

-- the last addition led to the node, and those in front of it to what the node was before
pub led_front : (node : SeenNode) (added : List Addition) (a : Addition) → LeadTo node (added ++ a ∷ []) → (a.after ≡ node) × LeadTo a.before added
led_front node [] a led = (led.0, tt)
led_front node (x ∷ added) a led = let rest = led_front node added a led.1 in (rest.0, (led.0 ∙ undone_push node added a, rest.1))
