-- The versions that a node keeps, played again, make the same node.
use Rattle.std.proofs.Common.{◌≡◌, inl, inr, ℕ, zero, suc, ◌+◌, ◌<◌, Bool, true, false, cond, eqb, ltb, ◌||◌, List, [], ◌∷◌, ◌++◌, map, filter, length, replicate, Option, Some, None, refl, sym, ◌∙◌, ap, subst, arith, append_assoc, length-append}
use Rattle.std.specs.List.{AllByRecursion, slice_set, slice_index_or}
use Rattle.std.proofs.lemmas.Bool.{cases_lt, cases_Bool, lt-ltb}
use Rattle.std.proofs.lemmas.List.{append-nil, length-set, length-replicate, set_past}
use Rattle.quorum_rules.specs.Limits.{Numbers}
use Rattle.stamp_order.specs.declared.Stamp.{Stamp}
use Rattle.stamp_order.specs.Stamps.{same_stamp, before}
use Rattle.stamp_order.specs.declared.Bound.TheVariants.{AtMost}
use Rattle.wire_forms.specs.declared.Request.TheVariants.{Write}
use Rattle.protocol.specs.Count.{one_more}
use Rattle.protocol.specs.Messages.{Version, Reason}
use Rattle.protocol.specs.Setting.{Setting, first_stamp}
use Rattle.protocol.specs.Instance.{setting}
use Rattle.protocol.specs.Nodes.{first_version, refusal, keeps, added, after, outlives, pruned, carries, greatest_in}
use Rattle.protocol.proofs.lemmas.Order.{same_stamp-refl}
use Rattle.node_core.specs.Seen.{SeenNode, versions_in, with_versions, new_node, after_of}
use Rattle.slot_disk.specs.Slots.{Slot, version_slot}
use Rattle.version_disk.specs.Held.{after_slot, played, held, slots_of, written}
use Rattle.version_disk.specs.Deeds.{replies_of}
use Rattle.version_disk.specs.Compacted.{slots_in, slots_from, kept_slots, IsAlike}
use Rattle.version_disk.proofs.lemmas.Playing.{played_append}

module _ (s : Setting) (i : ℕ) where
  -- each of these versions would be accepted behind those before it
  abbrev pub Follow : List Version → List Version → Type 0
  Follow front [] = Unit {0}
  Follow front (v ∷ rest) = (refusal s i v ≡ None) × (keeps front v.stamp ≡ false) × Follow (front ++ v ∷ []) rest

  -- the first version, and then such ones
  pub record IsGrown (vs : List Version) : Type 0 where
    pub rest : List Version
    pub begins : vs ≡ first_version s i ∷ rest
    pub follow : Follow (first_version s i ∷ []) rest

  follow_push : (front rest : List Version) (v : Version) → Follow front rest → refusal s i v ≡ None → keeps (front ++ rest) v.stamp ≡ false → Follow front (rest ++ v ∷ [])
  follow_push front [] v follow fine new = (fine, subst (λ (l : List Version). keeps l v.stamp ≡ false) (append-nil front) new, tt)
  follow_push front (u ∷ rest) v follow fine new =
      (follow.0, follow.1, follow_push (front ++ u ∷ []) rest v follow.2 fine (subst (λ (l : List Version). keeps l v.stamp ≡ false) (sym (append_assoc front (u ∷ []) rest)) new))

  pub grown_more : (vs : List Version) (v : Version) → IsGrown vs → refusal s i v ≡ None → keeps vs v.stamp ≡ false → IsGrown (vs ++ v ∷ [])
  grown_more vs v is fine new = record {
    rest = is.rest ++ v ∷ [];
    begins = ap (λ (l : List Version). l ++ v ∷ []) is.begins;
    follow = follow_push (first_version s i ∷ []) is.rest v is.follow fine (subst (λ (l : List Version). keeps l v.stamp ≡ false) is.begins new);
  }

  keeps_append : (front : List Version) (v : Version) (stamp : Stamp) → keeps (front ++ v ∷ []) stamp ≡ (keeps front stamp || same_stamp v.stamp stamp)
  keeps_append [] v stamp = either (same_stamp v.stamp stamp)
    where
      either : (b : Bool) → (b || false) ≡ (false || b)
      either true = refl
      either false = refl
  keeps_append (u ∷ front) v stamp = ap (λ (b : Bool). same_stamp u.stamp stamp || b) (keeps_append front v stamp) ∙ assoc (same_stamp u.stamp stamp) (keeps front stamp) (same_stamp v.stamp stamp)
    where
      assoc : (a b c : Bool) → (a || (b || c)) ≡ ((a || b) || c)
      assoc true b c = refl
      assoc false b c = refl

  -- what the one keeps the other keeps
  abbrev Fewer : List Version → List Version → Type 0
  Fewer few all = (stamp : Stamp) → keeps few stamp ≡ true → keeps all stamp ≡ true

  fewer_both : (few all : List Version) (v : Version) → Fewer few all → Fewer (few ++ v ∷ []) (all ++ v ∷ [])
  fewer_both few all v fewer stamp k =
      keeps_append all v stamp ∙ either (keeps few stamp) (keeps all stamp) (same_stamp v.stamp stamp) (fewer stamp) (sym (keeps_append few v stamp) ∙ k)
    where
      either : (a b c : Bool) → (a ≡ true → b ≡ true) → (a || c) ≡ true → (b || c) ≡ true
      either true b c f e = ap (λ (x : Bool). x || c) (f refl)
      either false true c f e = refl
      either false false c f e = e

  fewer_more : (few all : List Version) (v : Version) → Fewer few all → Fewer few (all ++ v ∷ [])
  fewer_more few all v fewer stamp k = keeps_append all v stamp ∙ ap (λ (x : Bool). x || same_stamp v.stamp stamp) (fewer stamp k)

  still_new : (few all : List Version) (stamp : Stamp) → Fewer few all → keeps all stamp ≡ false → keeps few stamp ≡ false
  still_new few all stamp fewer new = elim (cases_Bool (keeps few stamp)) [
    | inl k ↦ absurd (let e = fewer stamp k in cc)
    | inr k ↦ k
  ]

  -- one version, which passes or not, and then others
  follow_at : (p : Version → Bool) (few all : List Version) (v : Version) (rest : List Version) → Fewer few all → Follow all (v ∷ rest)
      → ((now : List Version) → Fewer now (all ++ v ∷ []) → Follow now (filter p rest)) → (b : Bool) → Follow few (cond b (v ∷ filter p rest) (filter p rest))
  follow_at p few all v rest fewer follow next true = (follow.0, still_new few all v.stamp fewer follow.1, next (few ++ v ∷ []) (fewer_both few all v fewer))
  follow_at p few all v rest fewer follow next false = next few (fewer_more few all v fewer)

  follow_filter : (p : Version → Bool) (few all rest : List Version) → Fewer few all → Follow all rest → Follow few (filter p rest)
  follow_filter p few all [] fewer follow = tt
  follow_filter p few all (v ∷ rest) fewer follow = follow_at p few all v rest fewer follow (λ now less. follow_filter p now (all ++ v ∷ []) rest less follow.2) (p v)

  -- a prune keeps the first version
  pub grown_pruned : (vs : List Version) (stamp : Stamp) → IsGrown vs → IsGrown (pruned s stamp vs)
  grown_pruned vs stamp is =
      let p = outlives s stamp vs in
      let first = first_version s i in
      let stays : p first ≡ true = ap (λ (b : Bool). (b || carries (first_stamp s) (greatest_in (AtMost stamp) vs)) || before stamp (first_stamp s)) (same_stamp-refl (first_stamp s)) in
      record {
        rest = filter p is.rest;
        begins = ap (filter p) is.begins ∙ ap (λ (b : Bool). cond b (first ∷ filter p is.rest) (filter p is.rest)) stays;
        follow = follow_filter p (first ∷ []) (first ∷ []) is.rest (λ t k. k) is.follow;
      }

-- a node as it can come about
pub record IsGrownNode (c : Numbers) (number : ℕ) (node : SeenNode) : Type 0 where
  pub config : node.config ≡ c
  pub number_is : node.number ≡ number
  pub count : length node.blocks ≡ c.blocks
  pub grown : AllByRecursion (IsGrown (setting c) number) node.blocks

all_set : {X : Type 0} (P : X → Type 0) (xs : List X) (k : ℕ) (y : X) → AllByRecursion P xs → P y → AllByRecursion P (slice_set xs k y)
all_set P [] k y all is = all
all_set P (x ∷ xs) zero y all is = (is, all.1)
all_set P (x ∷ xs) (suc k) y all is = (all.0, all_set P xs k y all.1 is)

all_there : {X : Type 0} (P : X → Type 0) (xs : List X) (k : ℕ) (d : X) → AllByRecursion P xs → k < length xs → P (slice_index_or xs k d)
all_there P [] k d all below = absurd (omega arith)
all_there P (x ∷ xs) zero d all below = all.0
all_there P (x ∷ xs) (suc k) d all below = all_there P xs k d all.1 (omega arith)

all_same : {X : Type 0} (P : X → Type 0) (n : ℕ) (x : X) → P x → AllByRecursion P (replicate n x)
all_same P zero x is = tt
all_same P (suc n) x is = (is, all_same P n x is)

-- other versions of a block
set_grown : (c : Numbers) (number : ℕ) (node : SeenNode) (block : ℕ) (vs : List Version) → IsGrownNode c number node → (block < length node.blocks → IsGrown (setting c) number vs) → IsGrownNode c number (with_versions node block vs)
set_grown c number node block vs is grown = elim (cases_lt block (length node.blocks)) [
  | inl below ↦ record {
    config = is.config;
    number_is = is.number_is;
    count = length-set node.blocks block vs ∙ is.count;
    grown = all_set (IsGrown (setting c) number) node.blocks block vs is.grown (grown below);
  }
  | inr past ↦ subst (IsGrownNode c number) (ap (λ (bs : List (List Version)). record { config = node.config; number = node.number; blocks = bs }) (sym (set_past node.blocks block vs past))) is
]

-- what is accepted isn't refused, and new
write_grown : (s : Setting) (i : ℕ) (vs : List Version) (v : Version) (block : ℕ) → IsGrown s i vs → IsGrown s i (after s i vs (record { block = block; request = Write v }))
write_grown s i vs v block is = at (ltb block s.blocks) (refusal s i v) refl (keeps vs v.stamp) refl
  where
    at : (there : Bool) (why : Option Reason) → refusal s i v ≡ why → (old : Bool) → keeps vs v.stamp ≡ old → IsGrown s i (one_more vs (cond there (added (refusal s i v) vs v) None))
    at false why e old k = is
    at true (Some reason) e old k = subst (λ (o : Option Reason). IsGrown s i (one_more vs (added o vs v))) (sym e) is
    at true None e true k = subst (λ (o : Option Reason). IsGrown s i (one_more vs (added o vs v))) (sym e) (subst (λ (b : Bool). IsGrown s i (one_more vs (cond b None (Some v)))) (sym k) is)
    at true None e false k = subst (λ (o : Option Reason). IsGrown s i (one_more vs (added o vs v))) (sym e) (subst (λ (b : Bool). IsGrown s i (one_more vs (cond b None (Some v)))) (sym k) (grown_more s i vs v is e k))

slot_grown : (c : Numbers) (number : ℕ) (node : SeenNode) (slot : Slot) → IsGrownNode c number node → IsGrownNode c number (after_slot node slot)
slot_grown c number node slot is = either (eqb slot.kind 0)
  where
    here : slot.block < length node.blocks → IsGrown (setting c) number (versions_in node slot.block)
    here below = all_there (IsGrown (setting c) number) node.blocks slot.block [] is.grown below

    answered : slot.block < length node.blocks → IsGrown (setting c) number (after_of node (written slot))
    answered below =
        let vs = versions_in node slot.block in
        subst (λ (k : Numbers). IsGrown (setting c) number (after (setting k) node.number vs (written slot))) (sym is.config)
        (subst (λ (m : ℕ). IsGrown (setting c) number (after (setting c) m vs (written slot))) (sym is.number_is) (write_grown (setting c) number vs slot.version slot.block (here below)))

    dropped : slot.block < length node.blocks → IsGrown (setting c) number (pruned (setting node.config) slot.version.stamp (versions_in node slot.block))
    dropped below = subst (λ (k : Numbers). IsGrown (setting c) number (pruned (setting k) slot.version.stamp (versions_in node slot.block))) (sym is.config) (grown_pruned (setting c) number (versions_in node slot.block) slot.version.stamp (here below))

    either : (b : Bool) → IsGrownNode c number (cond b (with_versions node slot.block (after_of node (written slot))) (with_versions node slot.block (pruned (setting node.config) slot.version.stamp (versions_in node slot.block))))
    either true = set_grown c number node slot.block (after_of node (written slot)) is answered
    either false = set_grown c number node slot.block (pruned (setting node.config) slot.version.stamp (versions_in node slot.block)) is dropped

played_grown : (c : Numbers) (number : ℕ) (slots : List Slot) (node : SeenNode) → IsGrownNode c number node → IsGrownNode c number (played node slots)
played_grown c number [] node is = is
played_grown c number (s ∷ slots) node is = played_grown c number slots (after_slot node s) (slot_grown c number node s is)

pub held_grown : (c : Numbers) (number : ℕ) (bytes : List ℕ) → IsGrownNode c number (held c number bytes)
held_grown c number bytes = played_grown c number (slots_of c bytes) (new_node c number) (record {
  config = refl;
  number_is = refl;
  count = length-replicate c.blocks (first_version (setting c) number ∷ []);
  grown = all_same (IsGrown (setting c) number) c.blocks (first_version (setting c) number ∷ []) (record { rest = []; begins = refl; follow = tt });
})

get_seam : {X : Type 0} (xs ys : List X) (y d : X) → slice_index_or (xs ++ y ∷ ys) (length xs) d ≡ y
get_seam [] ys y d = refl
get_seam (x ∷ xs) ys y d = get_seam xs ys y d

set_seam : {X : Type 0} (xs ys : List X) (y z : X) → slice_set (xs ++ y ∷ ys) (length xs) z ≡ xs ++ z ∷ ys
set_seam [] ys y z = refl
set_seam (x ∷ xs) ys y z = ap (λ (l : List _). x ∷ l) (set_seam xs ys y z)

module _ (c : Numbers) (number : ℕ) where
  -- a node with these versions
  abbrev with_blocks : List (List Version) → SeenNode
  with_blocks blocks = record { config = c; number = number; blocks = blocks }

  accepted : (block : ℕ) (vs : List Version) (v : Version) → block < c.blocks → refusal (setting c) number v ≡ None → keeps vs v.stamp ≡ false → after (setting c) number vs (record { block = block; request = Write v }) ≡ vs ++ v ∷ []
  accepted block vs v below fine new =
      ap (λ (b : Bool). one_more vs (cond b (added (refusal (setting c) number v) vs v) None)) (lt-ltb block c.blocks below)
      ∙ ap (λ (o : Option Reason). one_more vs (added o vs v)) fine
      ∙ ap (λ (b : Bool). one_more vs (cond b None (Some v))) new

  -- the versions of one block, played one after the other
  block_played : (rest front : List Version) (done todo : List (List Version)) → length done < c.blocks → Follow (setting c) number front rest
      → played (with_blocks (done ++ front ∷ todo)) (map (version_slot (length done)) rest) ≡ with_blocks (done ++ (front ++ rest) ∷ todo)
  block_played [] front done todo below follow = ap (λ (l : List Version). with_blocks (done ++ l ∷ todo)) (sym (append-nil front))
  block_played (v ∷ rest) front done todo below follow =
      let block = length done in
      let now = with_blocks (done ++ front ∷ todo) in
      let there : versions_in now block ≡ front = get_seam done todo front [] in
      let after_v : after_slot now (version_slot block v) ≡ with_blocks (done ++ (front ++ v ∷ []) ∷ todo) =
      ap (λ (vs : List Version). with_versions now block (after (setting c) number vs (record { block = block; request = Write v }))) there
      ∙ ap (with_versions now block) (accepted block front v below follow.0 follow.1)
      ∙ ap with_blocks (set_seam done todo front (front ++ v ∷ [])) in
      ap (λ (n : SeenNode). played n (map (version_slot block) rest)) after_v
      ∙ block_played rest (front ++ v ∷ []) done todo below follow.2
      ∙ ap (λ (l : List Version). with_blocks (done ++ l ∷ todo)) (append_assoc front (v ∷ []) rest)

  first : List Version
  first = first_version (setting c) number ∷ []

  -- and those of all blocks
  blocks_played : (blocks done : List (List Version)) → length done + length blocks ≡ c.blocks → AllByRecursion (IsGrown (setting c) number) blocks
      → played (with_blocks (done ++ replicate (length blocks) (first_version (setting c) number ∷ []))) (slots_from (length done) blocks) ≡ with_blocks (done ++ blocks)
  blocks_played [] done count grown = refl
  blocks_played (vs ∷ blocks) done count grown =
      let g = grown.0 in
      let one = first_version (setting c) number ∷ [] in
      let todo = replicate (length blocks) one in
      let start = with_blocks (done ++ one ∷ todo) in
      let here : slots_in (length done) vs ≡ map (version_slot (length done)) g.rest = ap (slots_in (length done)) g.begins in
      let next : length (done ++ vs ∷ []) ≡ suc (length done) = omega (arith, length-append done (vs ∷ [])) in
      played_append start (slots_in (length done) vs) (slots_from (suc (length done)) blocks)
      ∙ ap (λ (l : List Slot). played (played start l) (slots_from (suc (length done)) blocks)) here
      ∙ ap (λ (n : SeenNode). played n (slots_from (suc (length done)) blocks)) (block_played g.rest one done todo (omega arith) g.follow)
      ∙ ap (λ (l : List Version). played (with_blocks (done ++ l ∷ todo)) (slots_from (suc (length done)) blocks)) (sym g.begins)
      ∙ ap (λ (l : List (List Version)). played (with_blocks l) (slots_from (suc (length done)) blocks)) (sym (append_assoc done (vs ∷ []) todo))
      ∙ ap (λ (n : ℕ). played (with_blocks ((done ++ vs ∷ []) ++ todo)) (slots_from n blocks)) (sym next)
      ∙ blocks_played blocks (done ++ vs ∷ []) (omega (arith, length-append done (vs ∷ []))) grown.1
      ∙ ap with_blocks (append_assoc done (vs ∷ []) blocks)

  pub kept_played : (node : SeenNode) → IsGrownNode c number node → played (new_node c number) (kept_slots node) ≡ node
  kept_played node is =
      ap (λ (n : ℕ). played (with_blocks (replicate n (first_version (setting c) number ∷ []))) (kept_slots node)) (sym is.count)
      ∙ blocks_played node.blocks [] (let count = is.count in omega arith) is.grown
      ∙ (λ j. record { config = sym is.config j; number = sym is.number_is j; blocks = node.blocks })

  pub alike : (old new : List ℕ) → slots_of c new ≡ kept_slots (held c number old) → IsAlike c number old new
  alike old new same =
      let state : held c number new ≡ held c number old = ap (played (new_node c number)) same ∙ kept_played (held c number old) (held_grown c number old) in
      record { state = state; replies = λ asks. ap (λ (n : SeenNode). replies_of n asks) state }
