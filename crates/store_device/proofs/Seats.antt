-- A seat whose node was handed asks, and what a crash leaves of it then.
use Rattle.std.proofs.Common.{◌≡◌, ◌⊎◌, inl, inr, ℕ, ◌≤◌, Bool, true, false, cond, not, List, [], ◌∷◌, length, take, Option, Some, None, refl, sym, ◌∙◌, ap, subst, eqb, arith}
use Rattle.std.specs.List.{AllByRecursion}
use Rattle.std.proofs.lemmas.Bool.{cases_Bool}
use Rattle.std.proofs.lemmas.List.{length-set, length-replicate, take-map}
use Rattle.quorum_rules.specs.Limits.{Numbers}
use Rattle.protocol.specs.Messages.{Ask, Reply, IsFormedReply}
use Rattle.protocol.specs.Nodes.{pruned}
use Rattle.protocol.specs.Instance.{setting}
use Rattle.disk_model.specs.Crash.{Pending, MayLeave, settled}
use Rattle.disk_model.proofs.lemmas.Crash.{only_settled}
use Rattle.node_core.specs.Seen.{SeenNode, versions_in, with_versions, new_node, after_of}
use Rattle.slot_disk.specs.Slots.{Slot}
use Rattle.version_disk.specs.Held.{held, played, after_slot, slots_of, written}
use Rattle.version_disk.specs.Deeds.{Answers, answering, after_deeds, after_asks, replies_of, AreDoneInPart}
use Rattle.version_disk.proofs.lemmas.Playing.{played_config}
use Rattle.version_disk.proofs.lemmas.Answering.{after_config}
use Rattle.version_disk.specs.Stored.{Stored}
use Rattle.store_device.specs.Stores.{IsSound, IsFoundAt, IsLeftAt, is_up, kept_at}
use Rattle.store_device.specs.Working.{HasAnswered, HasDone, HasWorked, WorksIn, HasGoneOn}
use Rattle.store_device.proofs.Asked.{IsNodeOf}

-- slots change no number of blocks
slot_count : (node : SeenNode) (s : Slot) → length (after_slot node s).blocks ≡ length node.blocks
slot_count node s = either (eqb s.kind 0)
  where
    either : (b : Bool) → length (cond b (with_versions node s.block (after_of node (written s)))
        (with_versions node s.block (pruned (setting node.config) s.version.stamp (versions_in node s.block)))).blocks ≡ length
        node.blocks
    either true = length-set node.blocks s.block (after_of node (written s))
    either false = length-set node.blocks s.block (pruned (setting node.config) s.version.stamp (versions_in node s.block))

played_count : (node : SeenNode) (slots : List Slot) → length (played node slots).blocks ≡ length node.blocks
played_count node [] = refl
played_count node (s ∷ slots) = played_count (after_slot node s) slots ∙ slot_count node s

pub held_is_node : (c : Numbers) (i : ℕ) (bytes : List ℕ) → IsNodeOf c i (held c i bytes)
held_is_node c i bytes =
    let h = played_config (new_node c i) (slots_of c bytes) in
    record { config = h.0; numbered = h.1; count = played_count (new_node c i) (slots_of c bytes) ∙ length-replicate c.blocks _ }

pub may_stay : (bytes : List ℕ) → MayLeave (settled bytes) bytes
may_stay bytes = record { no_shorter = omega arith; no_longer = omega arith; others = λ k l o. refl }

-- what a `cond` of two facts says where its test is known
pub when_true : (P Q : Type 0) (b : Bool) → b ≡ true → cond b P Q → P
when_true P Q true e p = p
when_true P Q false e p = absurd cc

pub when_false : (P Q : Type 0) (b : Bool) → b ≡ false → cond b P Q → Q
when_false P Q true e p = absurd cc
when_false P Q false e p = p

pub at_true : (P Q : Type 0) (b : Bool) → b ≡ true → P → cond b P Q
at_true P Q true e p = p
at_true P Q false e p = absurd cc

pub at_false : (P Q : Type 0) (b : Bool) → b ≡ false → Q → cond b P Q
at_false P Q true e p = absurd cc
at_false P Q false e p = p

pub not_false : (b : Bool) → not b ≡ false → b ≡ true
not_false true e = refl
not_false false e = absurd cc

pub not_true : (b : Bool) → not b ≡ true → b ≡ false
not_true true e = absurd cc
not_true false e = refl

-- the node did the first few of the asks
pub record IsPartly (c : Numbers) (i : ℕ) (asks : List Ask) (old new : SeenNode) : Type 0 where
  pub node : IsNodeOf c i old
  pub k : ℕ
  pub few : new ≡ after_asks old (take k asks)

-- the node did all the asks, and answered them
pub record IsWholly (c : Numbers) (i : ℕ) (asks : List Ask) (told : List Reply) (old new : SeenNode) : Type 0 where
  pub node : IsNodeOf c i old
  pub replies : told ≡ replies_of old asks
  pub all : new ≡ after_asks old asks

-- it kept what it kept, or did the first few of the asks
abbrev pub IsInPart : Numbers → ℕ → List Ask → SeenNode → SeenNode → Type 0
IsInPart c i asks old new = (new ≡ old) ⊎ IsPartly c i asks old new

-- a node that answered did all of them
abbrev pub IsTaken : Numbers → ℕ → List Ask → Option (List Reply) → SeenNode → SeenNode → Type 0
IsTaken c i asks None old new = IsInPart c i asks old new
IsTaken c i asks (Some replies) old new = IsWholly c i asks replies old new

module _ {D : Type 0} (pending : D → Pending) (seen : D → List ℕ) (moment : D → ℕ) (left_since : D → ℕ → List ℕ → Type 0) (c : Numbers)
    (i : ℕ) where
  -- a node that is up
  pub record IsUp (seat : Option (Stored D)) : Type 0 where
    pub node : Stored D
    pub there : seat ≡ Some node
    pub whole : node.broken ≡ false

  pub up_or_down : (seat : Option (Stored D)) → IsUp seat ⊎ (is_up seat ≡ false)
  up_or_down None = inr refl
  up_or_down (Some node) = elim (cases_Bool node.broken) [
    | inl broken ↦ inr (ap not broken)
    | inr whole ↦ inl (record { node = node; there = refl; whole = whole })
  ]

  -- a node that isn't up stays as it is
  pub down_works : (asks : List Ask) (answer : Option (List Reply)) (now then : Option (Stored D)) → is_up now ≡ false
      → WorksIn pending seen moment left_since asks answer now then → (then ≡ now) × (answer ≡ None)
  down_works asks answer None then down works = works
  down_works asks answer (Some n) then down works = when_true _ _ n.broken (not_false n.broken down) works

  pub up_works : (asks : List Ask) (answer : Option (List Reply)) (now then : Option (Stored D)) (n : Stored D) → now ≡ Some n
      → n.broken ≡ false → WorksIn pending seen moment left_since asks answer now then
      → (is : Stored D) × (then ≡ Some is) × HasWorked pending seen moment left_since asks answer n is
  up_works asks answer now then n there whole works =
      when_false _ _ n.broken whole (subst (λ (seat : Option (Stored D)). WorksIn pending seen moment left_since asks answer seat then)
      there works)

  module _ (counts_now : (disk : D) (t : ℕ) (bytes : List ℕ) → t ≤ moment disk → MayLeave (pending disk) bytes → left_since disk t bytes)
    where
      -- what is kept of the asks when a crash leaves these bytes
      partly_done : (asks : List Ask) (n : Stored D) (bytes : List ℕ) (kept : SeenNode) → IsSound pending seen c i n → kept ≡ held c i bytes
          → AreDoneInPart n.node.config n.node.number n.node (answering asks) (seen n.disk) bytes → IsPartly c i asks n.node kept
      partly_done asks n bytes kept sound is done = record {
        node = subst (IsNodeOf c i) sound.state (held_is_node c i (seen n.disk));
        k = done.state.0;
        few = is ∙ sym ((λ x. held (sound.config x) (sound.numbered x) bytes)) ∙ done.state.2
            ∙ ap (after_deeds n.node) (take-map Answers done.state.0 asks);
      }

      abbrev Left : D → ℕ → SeenNode → Type 0
      Left disk t kept = (bytes : List ℕ) × left_since disk t bytes × (kept ≡ held c i bytes)

      abbrev Found : D → SeenNode → Type 0
      Found disk kept = (bytes : List ℕ) × MayLeave (pending disk) bytes × (kept ≡ held c i bytes)

      as_it_is : (n : Stored D) → IsSound pending seen c i n → Found n.disk n.node
      as_it_is n sound = (
        seen n.disk,
        subst (λ (p : Pending). MayLeave p (seen n.disk)) (sym sound.durable) (may_stay (seen n.disk)),
        sym
            sound.state,
      )

      left_up : (asks : List Ask) (answer : Option (List Reply)) (t : ℕ) (n s : Stored D) (kept : SeenNode) → t ≤ moment n.disk
          → IsSound pending seen c i n
          → HasWorked pending seen moment left_since asks answer n s → Left s.disk t kept
          → (before : SeenNode) × Left n.disk t before × IsInPart c i asks before kept
      left_up asks answer t n s kept later sound worked left =
          let h = worked.any_moment.before t left.0 later left.1 in
          elim h [
            | inl past ↦ (kept, (left.0, past, left.2), inl refl)
            | inr done ↦ (let here = as_it_is n sound in (
              n.node,
              (here.0, counts_now n.disk t here.0 later here.1, here.2),
              inr
                  (partly_done asks n left.0 kept sound left.2 done),
            ))
          ]

      found_up : (asks : List Ask) (answer : Option (List Reply)) (n s : Stored D) (kept : SeenNode) → IsSound pending seen c i n
          → HasWorked pending seen moment left_since asks answer n s → Found s.disk kept
          → (before : SeenNode) × Found n.disk before × IsTaken c i asks answer before kept
      found_up asks None n s kept sound worked found =
          let done = worked.any_moment.each found.0 (counts_now s.disk (moment n.disk) found.0 worked.any_moment.later found.1) in
          (n.node, as_it_is n sound, inr (partly_done asks n found.0 kept sound found.2 done))
      found_up asks (Some replies) n s kept sound worked found =
          let done : HasAnswered pending seen asks replies n s = worked.done in
          let bytes : found.0 ≡ seen s.disk = only_settled (seen s.disk) found.0
          (subst (λ (p : Pending). MayLeave p found.0) done.durable found.1) in (
            n.node,
            as_it_is n sound,
            record {
              node = subst (IsNodeOf c i) sound.state (held_is_node c i (seen n.disk));
              replies = done.replies;
              all = found.2 ∙ ap (held c i) bytes ∙ sym ((λ x. held (sound.config x) (sound.numbered x) (seen s.disk))) ∙ done.held
                  ∙ done.state;
            },
          )

      -- what a crash leaves of two nodes that are up
      left_of_two : (was is : Stored D) (gone kept : SeenNode) → was.broken ≡ false
          → IsLeftAt moment left_since c i (Some was) (Some is) gone kept → Left is.disk (moment was.disk) kept
      left_of_two was is gone kept whole left = when_false _ _ was.broken whole left

      two_left : (was is : Stored D) (gone kept : SeenNode) → was.broken ≡ false → Left is.disk (moment was.disk) kept
          → IsLeftAt moment left_since c i (Some was) (Some is) gone kept
      two_left was is gone kept whole left = at_false _ _ was.broken whole left

      found_of_two : (was is : Stored D) (gone kept : SeenNode) → was.broken ≡ false → IsFoundAt pending c i (Some was) (Some is) gone kept
          → Found is.disk kept
      found_of_two was is gone kept whole found = when_false _ _ was.broken whole found

      two_found : (was is : Stored D) (gone kept : SeenNode) → was.broken ≡ false → Found is.disk kept
          → IsFoundAt pending c i (Some was) (Some is) gone kept
      two_found was is gone kept whole found = at_false _ _ was.broken whole found

      -- a node that is up, and was when the call began
      record IsBoth (start now : Option (Stored D)) : Type 0 where
        pub was : Stored D
        pub node : Stored D
        pub began : start ≡ Some was
        pub there : now ≡ Some node
        pub was_whole : was.broken ≡ false
        pub whole : node.broken ≡ false
        pub later : moment was.disk ≤ moment node.disk
        pub sound : IsSound pending seen c i node

      both_up : (start now : Option (Stored D)) → HasGoneOn pending seen moment left_since c i start now → IsUp now → IsBoth start now
      both_up start now gone_on up = elim (up_or_down start) [
        | inl began ↦ (
            let h = gone_on.up began.node began.there began.whole in
            let same : h.0 ≡ up.node = (let e : now ≡ Some h.0 = h.1 in let f : now ≡ Some up.node = up.there in cc) in
            record {
              was = began.node;
              node = up.node;
              began = began.there;
              there = up.there;
              was_whole = began.whole;
              whole = up.whole;
              later = subst (λ (x : Stored D). moment began.node.disk ≤ moment x.disk) same h.2;
              sound = gone_on.sound up.node up.there up.whole;
            })
        | inr down ↦ absurd (
            let e : is_up now ≡ false = ap is_up (gone_on.down down) ∙ down in
            let f : is_up now ≡ true = ap is_up up.there ∙ ap not up.whole in
            cc)
      ]

      pub left_at : (asks : List Ask) (answer : Option (List Reply)) (start now then : Option (Stored D)) (gone kept : SeenNode)
          → HasGoneOn pending seen moment left_since c i start now → WorksIn pending seen moment left_since asks answer now then
          → IsLeftAt moment left_since c i start then gone kept
          → (before : SeenNode) × IsLeftAt moment left_since c i start now gone before × IsInPart c i asks before kept
      left_at asks answer start now then gone kept gone_on works left = elim (up_or_down now) [
        | inr down ↦ (let h = down_works asks answer now then down works in
            (kept, subst (λ (seat : Option (Stored D)). IsLeftAt moment left_since c i start seat gone kept) h.0 left, inl refl))
        | inl up ↦ (
            let b = both_up start now gone_on up in
            let w = up_works asks answer now then b.node b.there b.whole works in
            let here : IsLeftAt moment left_since c i (Some b.was) (Some w.0) gone kept = subst
            (λ (seat : Option (Stored D)). IsLeftAt moment left_since c i (Some b.was) seat gone kept) w.1
            (subst (λ (seat : Option (Stored D)). IsLeftAt moment left_since c i seat then gone kept) b.began left) in
            let h = left_up asks answer (moment b.was.disk) b.node w.0 kept b.later b.sound w.2
            (left_of_two b.was w.0 gone kept b.was_whole here) in (
              h.0,
              subst (λ (seat : Option (Stored D)). IsLeftAt moment left_since c i seat now gone h.0) (sym b.began)
                  (subst (λ (seat : Option (Stored D)). IsLeftAt moment left_since c i (Some b.was) seat gone h.0) (sym b.there)
                  (two_left b.was b.node gone h.0 b.was_whole h.1)),
              h.2,
            ))
      ]

      pub found_at : (asks : List Ask) (answer : Option (List Reply)) (start now then : Option (Stored D)) (gone kept : SeenNode)
          → HasGoneOn pending seen moment left_since c i start now → WorksIn pending seen moment left_since asks answer now then
          → IsFoundAt pending c i start then gone kept
          → (before : SeenNode) × IsFoundAt pending c i start now gone before × IsTaken c i asks answer before kept
      found_at asks answer start now then gone kept gone_on works found = elim (up_or_down now) [
        | inr down ↦ (let h = down_works asks answer now then down works in (
          kept,
          subst (λ (seat : Option (Stored D)). IsFoundAt pending c i start seat gone kept) h.0 found,
          subst
              (λ (a : Option (List Reply)). IsTaken c i asks a kept kept) (sym h.1) (inl refl),
        ))
        | inl up ↦ (
            let b = both_up start now gone_on up in
            let w = up_works asks answer now then b.node b.there b.whole works in
            let here : IsFoundAt pending c i (Some b.was) (Some w.0) gone kept = subst
            (λ (seat : Option (Stored D)). IsFoundAt pending c i (Some b.was) seat gone kept) w.1
            (subst (λ (seat : Option (Stored D)). IsFoundAt pending c i seat then gone kept) b.began found) in
            let h = found_up asks answer b.node w.0 kept b.sound w.2 (found_of_two b.was w.0 gone kept b.was_whole here) in (
              h.0,
              subst (λ (seat : Option (Stored D)). IsFoundAt pending c i seat now gone h.0) (sym b.began)
                  (subst (λ (seat : Option (Stored D)). IsFoundAt pending c i (Some b.was) seat gone h.0) (sym b.there)
                  (two_found b.was b.node gone h.0 b.was_whole h.1)),
              h.2,
            ))
      ]

      -- what is found counts among what a crash leaves
      pub found_is_left : (start now : Option (Stored D)) (gone kept : SeenNode) → HasGoneOn pending seen moment left_since c i start now
          → IsFoundAt pending c i start now gone kept → IsLeftAt moment left_since c i start now gone kept
      found_is_left None now gone kept gone_on found = found
      found_is_left (Some was) None gone kept gone_on found = found
      found_is_left (Some was) (Some is) gone kept gone_on found = elim (cases_Bool was.broken) [
        | inl broken ↦ at_true _ _ was.broken broken (when_true _ _ was.broken broken found)
        | inr whole ↦ (
            let h = gone_on.up was refl whole in
            let same : h.0 ≡ is = (let e : Some is ≡ Some h.0 = h.1 in cc) in
            let f = found_of_two was is gone kept whole found in
            two_left was is gone kept whole (
              f.0,
              counts_now is.disk (moment was.disk) f.0
                  (subst (λ (x : Stored D). moment was.disk ≤ moment x.disk) same h.2) f.1,
              f.2,
            ))
      ]

      -- a node that is up is among what a crash leaves
      pub left_itself : (start now : Option (Stored D)) (gone : SeenNode) → HasGoneOn pending seen moment left_since c i start now
          → (n : Stored D) → now ≡ Some n → n.broken ≡ false → IsLeftAt moment left_since c i start now gone n.node
      left_itself start now gone gone_on n there whole =
          let b = both_up start now gone_on (record { node = n; there = there; whole = whole }) in
          let same : b.node ≡ n = (let e : now ≡ Some b.node = b.there in cc) in
          let here = as_it_is b.node b.sound in
          subst (λ (seat : Option (Stored D)). IsLeftAt moment left_since c i seat now gone n.node) (sym b.began)
          (subst (λ (seat : Option (Stored D)). IsLeftAt moment left_since c i (Some b.was) seat gone n.node) (sym b.there)
          (two_left b.was b.node gone n.node b.was_whole (
            here.0,
            counts_now b.node.disk (moment b.was.disk) here.0 b.later here.1,
            ap
                (λ (x : Stored D). x.node) (sym same) ∙ here.2,
          )))

      -- the node is one of the cluster where it answered, and tells what it keeps
      pub answered_at : (asks : List Ask) (replies : List Reply) (start now then : Option (Stored D)) (gone : SeenNode)
          → HasGoneOn pending seen moment left_since c i start now → WorksIn pending seen moment left_since asks (Some replies) now then
          → (node : SeenNode) × IsNodeOf c i node × IsLeftAt moment left_since c i start now gone node × (replies ≡ replies_of node asks)
          × AllByRecursion IsFormedReply replies
      answered_at asks replies start now then gone gone_on works = elim (up_or_down now) [
        | inr down ↦ absurd (let h = down_works asks (Some replies) now then down works in let e : Some replies ≡ None = h.1 in cc)
        | inl up ↦ (
            let w = up_works asks (Some replies) now then up.node up.there up.whole works in
            let done : HasAnswered pending seen asks replies up.node w.0 = w.2.done in
            let sound = gone_on.sound up.node up.there up.whole in (
              up.node.node,
              subst (IsNodeOf c i) sound.state (held_is_node c i (seen up.node.disk)),
              left_itself start now gone gone_on
                  up.node up.there up.whole,
              done.replies,
              done.formed,
            ))
      ]

      -- a node that answers was up when the call began
      pub answered_up : (asks : List Ask) (replies : List Reply) (start now then : Option (Stored D))
          → HasGoneOn pending seen moment left_since c i start now → WorksIn pending seen moment left_since asks (Some replies) now then
          → is_up start ≡ true
      answered_up asks replies start now then gone_on works = elim (up_or_down now) [
        | inr down ↦ absurd (let h = down_works asks (Some replies) now then down works in let e : Some replies ≡ None = h.1 in cc)
        | inl up ↦ (let b = both_up start now gone_on up in ap is_up b.began ∙ ap not b.was_whole)
      ]

  sound_same : (asks : List Ask) (n s : Stored D) → IsSound pending seen c i n → (answer : Option (List Reply))
      → HasDone pending seen asks answer n s → s.broken ≡ false → IsSound pending seen c i s
  sound_same asks n s sound None done whole = elim done [
    | inl same ↦ subst (IsSound pending seen c i) (sym same) sound
    | inr broken ↦ absurd cc
  ]
  sound_same asks n s sound (Some replies) done whole =
      let after = after_config n.node asks in
      record {
        config = ap (λ (x : SeenNode). x.config) done.state ∙ after.0 ∙ sound.config;
        numbered = ap (λ (x : SeenNode). x.number) done.state ∙ after.1 ∙ sound.numbered;
        durable = done.durable;
        state = sym ((λ x. held (sound.config x) (sound.numbered x) (seen s.disk))) ∙ done.held;
      }

  -- a seat that was handed asks has gone on
  pub goes_on : (asks : List Ask) (answer : Option (List Reply)) (start now then : Option (Stored D))
      → HasGoneOn pending seen moment left_since c i start now → WorksIn pending seen moment left_since asks answer now then
      → HasGoneOn pending seen moment left_since c i start then
  goes_on asks answer start now then gone_on works = elim (up_or_down now) [
    | inr down ↦ subst (HasGoneOn pending seen moment left_since c i start) (sym (down_works asks answer now then down works).0) gone_on
    | inl up ↦ (
        let w = up_works asks answer now then up.node up.there up.whole works in
        record {
          down = λ (sdown : is_up start ≡ false). absurd (
              let e : is_up now ≡ false = ap is_up (gone_on.down sdown) ∙ sdown in
              let f : is_up now ≡ true = ap is_up up.there ∙ ap not up.whole in
              cc);
          up = λ (was : Stored D) (began : start ≡ Some was) (whole : was.broken ≡ false). (
              let h = gone_on.up was began whole in
              let same : h.0 ≡ up.node = (let e : now ≡ Some h.0 = h.1 in let f : now ≡ Some up.node = up.there in cc) in
              let first = subst (λ (x : Stored D). moment was.disk ≤ moment x.disk) same h.2 in
              let later = w.2.any_moment.later in
              (w.0, w.1, omega arith));
          sound = λ (is : Stored D) (there : then ≡ Some is) (whole : is.broken ≡ false). (
              let same : w.0 ≡ is = (let e : then ≡ Some w.0 = w.1 in cc) in
              subst (IsSound pending seen c i) same (sound_same asks up.node w.0 (gone_on.sound up.node up.there up.whole) answer w.2.done
              (subst (λ (x : Stored D). x.broken ≡ false) (sym same) whole)));
        })
  ]

  -- when the call begins
  pub has_begun : (start : Option (Stored D)) → ((is : Stored D) → start ≡ Some is → is.broken ≡ false → IsSound pending seen c i is)
      → HasGoneOn pending seen moment left_since c i start start
  has_begun start sound = record {
    down = λ e. refl;
    up = λ (was : Stored D) (began : start ≡ Some was) (whole : was.broken ≡ false). (was, began, omega arith);
    sound = sound;
  }

  pub left_at_first : ((disk : D) (bytes : List ℕ) → left_since disk (moment disk) bytes → MayLeave (pending disk) bytes)
      → (start : Option (Stored D)) (gone kept : SeenNode)
      → ((is : Stored D) → start ≡ Some is → is.broken ≡ false → IsSound pending seen c i is)
      → IsLeftAt moment left_since c i start start gone kept → kept ≡ kept_at start gone
  left_at_first only_now None gone kept sound left = left
  left_at_first only_now (Some was) gone kept sound left = elim (cases_Bool was.broken) [
    | inl broken ↦ when_true _ _ was.broken broken left ∙ sym (ap (λ (b : Bool). cond b gone was.node) broken)
    | inr whole ↦ (
        let l : (bytes : List ℕ) × left_since was.disk (moment was.disk) bytes
        × (kept ≡ held c i bytes) = when_false _ _ was.broken whole left in
        let s = sound was refl whole in
        let bytes : l.0 ≡ seen was.disk = only_settled (seen was.disk) l.0
        (subst (λ (p : Pending). MayLeave p l.0) s.durable (only_now was.disk l.0 l.1)) in
        l.2 ∙ ap (held c i) bytes ∙ s.state ∙ sym (ap (λ (b : Bool). cond b gone was.node) whole))
  ]

-- what a node that was handed asks has done, as what its seat has done
pub works_in : {D : Type 0} (pending : D → Pending) (seen : D → List ℕ) (moment : D → ℕ) (left_since : D → ℕ → List ℕ → Type 0)
    (asks : List Ask) (answer : Option (List Reply)) (seat : Option (Stored D)) (was is : Stored D) → seat ≡ Some was
    → (was.broken ≡ true → (is ≡ was) × (answer ≡ None))
    → (was.broken ≡ false → HasWorked pending seen moment left_since asks answer was is)
    → WorksIn pending seen moment left_since asks answer seat (Some is)
works_in pending seen moment left_since asks answer seat was is there down up =
    subst (λ s. WorksIn pending seen moment left_since asks answer s (Some is)) (sym there)
    (elim (cases_Bool was.broken) [
      | inl broken ↦ (let h = down broken in at_true _ _ was.broken broken (ap Some h.0, h.1))
      | inr whole ↦ at_false _ _ was.broken whole (is, refl, up whole)
    ])
