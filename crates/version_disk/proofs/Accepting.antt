-- What a node accepts, and what it prunes, makes good slots.
use Rattle.std.proofs.Common.{◌≡◌, ℕ, Bool, true, false, cond, not, eqb, ltb, List, [], ◌∷◌, ◌<◌, length, Option, Some, None, refl, sym, ap, subst}
use Rattle.std.specs.Prelude.{◌||◌, is_some}
use Rattle.node_core.specs.Seen.{SeenNode, versions_in, with_versions, after_of, accepts_of}
use Rattle.std.proofs.lemmas.Bool.{eqb-true, lt-ltb}
use Rattle.quorum_rules.specs.Limits.{Numbers, share_of}
use Rattle.protocol.specs.Messages.{Version, Ask, Request, Reason}
use Rattle.protocol.specs.Instance.{setting}
use Rattle.protocol.specs.Setting.{Setting}
use Rattle.protocol.specs.Nodes.{refusal, reply, acknowledged, accepts, added, added_in, keeps}
use Rattle.wire_forms.specs.declared.Request.TheVariants.{Time, Read, Write}
use Rattle.wire_forms.specs.declared.Reply.TheVariants.{Refused}
use Rattle.wire_forms.specs.declared.Reason.TheVariants.{BadBlock, BadLength}
use Rattle.stamp_order.specs.declared.Stamp.{Stamp}
use Rattle.slot_disk.specs.Slots.{version_slot, prune_slot, Fits}
use Rattle.version_disk.specs.Held.{after_slot, is_bad, is_refusal}
use Rattle.version_disk.specs.Kept.{IsGoodIn}
use Rattle.version_disk.specs.Deeds.{Answers, after_deed, slots_by, added_slots}

not_refused : (there : Bool) (why : Option Reason) (vs : List Version) (v : Version) → is_some (cond there (added why vs v) None) ≡ true → (is_refusal (cond there (acknowledged why) (Refused BadBlock)) ≡ false) × (why ≡ None)
not_refused false why vs v some = absurd cc
not_refused true (Some r) vs v some = absurd cc
not_refused true None vs v some = (refl, refl)

lengths_of : (a b : Bool) (rest : Option Reason) → cond (not a || not b) (Some BadLength) rest ≡ None → (a ≡ true) × (b ≡ true)
lengths_of true true rest none = (refl, refl)
lengths_of true false rest none = absurd cc
lengths_of false b rest none = absurd cc

-- a version that isn't refused has its lengths
pub refusal_lengths : (c : Numbers) (number : ℕ) (v : Version) → refusal (setting c) number v ≡ None → (length v.sum ≡ c.n) × (length v.fragment ≡ share_of c)
refusal_lengths c number v fine =
    let h = lengths_of (eqb (length v.sum) c.n) (eqb (length v.fragment) (share_of c)) _ fine in
    (eqb-true (length v.sum) c.n h.0, eqb-true (length v.fragment) (share_of c) h.1)

module _ (c : Numbers) (number : ℕ) (vs : List Version) (block : ℕ) (v : Version) (some : is_some (accepts (setting c) number vs (record { block = block; request = Write v })) ≡ true) where
  both : (is_refusal (reply (setting c) number [] (record { block = block; request = Write v })) ≡ false) × (refusal (setting c) number v ≡ None)
  both = not_refused (ltb block c.blocks) (refusal (setting c) number v) vs v some

  isn_t_bad : is_bad c number (version_slot block v) ≡ false
  isn_t_bad = both.0

  sums : length v.sum ≡ c.n
  sums = (refusal_lengths c number v both.1).0

  shares : length v.fragment ≡ share_of c
  shares = (refusal_lengths c number v both.1).1

added_is : (why : Option Reason) (vs : List Version) (u v : Version) → Some v ≡ added why vs u → u ≡ v
added_is (Some r) vs u v is = absurd cc
added_is None vs u v is = unless_kept (keeps vs u.stamp) is
  where
    unless_kept : (b : Bool) → Some v ≡ cond b None (Some u) → u ≡ v
    unless_kept true is = absurd cc
    unless_kept false is = cc

write_in : (there : Bool) (s : Setting) (i : ℕ) (vs : List Version) (request : Request) (v : Version) → Some v ≡ cond there (added_in s i vs request) None → request ≡ Write v
write_in false s i vs request v is = absurd cc
write_in true s i vs Time v is = absurd cc
write_in true s i vs (Read bound) v is = absurd cc
write_in true s i vs (Write u) v is = ap Write (added_is (refusal s i u) vs u v is)

-- a version that a node adds in answer to an ask makes a good slot, and that slot does what the answer does
module _ (node : SeenNode) (ask : Ask) (v : Version) (is : Some v ≡ accepts_of node ask) where
  is_write : ask.request ≡ Write v
  is_write = write_in (ltb ask.block node.config.blocks) (setting node.config) node.number (versions_in node ask.block) ask.request v is

  some : is_some (accepts_of node (record { block = ask.block; request = Write v })) ≡ true
  some = subst (λ (r : Request). is_some (accepts_of node (record { block = ask.block; request = r })) ≡ true) is_write (ap is_some (sym is))

  pub version_sums : length v.sum ≡ node.config.n
  version_sums = sums node.config node.number (versions_in node ask.block) ask.block v some

  pub version_shares : length v.fragment ≡ share_of node.config
  version_shares = shares node.config node.number (versions_in node ask.block) ask.block v some

  pub version_good : Fits node.config (version_slot ask.block v) → IsGoodIn node.config node.number (version_slot ask.block v)
  version_good fits = record { fits = fits; fine = isn_t_bad node.config node.number (versions_in node ask.block) ask.block v some }

  pub version_after : after_slot node (version_slot ask.block v) ≡ after_deed node (Answers ask)
  version_after = ap (λ (r : Request). with_versions node ask.block (after_of node (record { block = ask.block; request = r }))) (sym is_write)

  pub version_slots : slots_by node (Answers ask) ≡ version_slot ask.block v ∷ []
  version_slots = ap (added_slots ask.block) (sym is)

-- a prune of a block that there is makes a good slot
pub prune_good : (c : Numbers) (number block : ℕ) (stamp : Stamp) → block < c.blocks → Fits c (prune_slot c block stamp) → IsGoodIn c number (prune_slot c block stamp)
prune_good c number block stamp below fits = record { fits = fits; fine = ap not (lt-ltb block c.blocks below) }
