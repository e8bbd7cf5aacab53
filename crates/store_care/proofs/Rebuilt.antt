-- A disk that was filled keeps what a rebuilt node keeps.
use Rattle.std.proofs.Common.{◌≡◌, ◌≢◌, ◌⊎◌, ℕ, zero, suc, ◌+◌, ◌-◌, ◌*◌, ◌/◌, ◌^◌, ◌<◌, ◌≤◌, min, Bool, true, false, cond, ◌||◌, eqb, ltb, nat_lt, List, [], ◌∷◌, ◌++◌, map, length, get_or, set, Option, None, Some, is_none, refl, sym, ◌∙◌, ap, subst, inl, inr, arith}
use Rattle.std.specs.List.{AllByRecursion, slice_get}
use Rattle.std.proofs.lemmas.Bool.{cases_Bool, cases_eq, cases_lt, eq-eqb, eqb-true, lt-ltb, false≢true}
use Rattle.std.proofs.lemmas.List.{length-set, length-replicate, get_or-replicate, get_or-set_same, get_or-set_other, get_or-map}
use Rattle.std.proofs.lemmas.Option.{slice_get-get_or}
use Rattle.quorum_rules.specs.Limits.{Numbers, IsValid}
use Rattle.stamp_order.specs.declared.Stamp.{Stamp}
use Rattle.stamp_order.specs.Stamps.{same_stamp}
use Rattle.wire_forms.specs.declared.op.Op.{Op}
use Rattle.wire_forms.specs.declared.op.Op.TheVariants.{Read}
use Rattle.wire_forms.specs.declared.Request.TheVariants.{Write}
use Rattle.wire_forms.specs.declared.Reply.TheVariants.{TimeIs, Found, Nothing, Ack, Refused}
use Rattle.wire_forms.specs.declared.Reason.TheVariants.{BadBlock}
use Rattle.run_words.specs.declared.outcome.Outcome.TheVariants.{Gave}
use Rattle.protocol.specs.Count.{one_more}
use Rattle.protocol.specs.Instance.{setting, nobody, IsCluster}
use Rattle.protocol.specs.Laws.{InEachCluster}
use Rattle.protocol.specs.Messages.{Version, Ask, Reason, Reply}
use Rattle.protocol.specs.Nodes.{first_version, keeps, refusal, acknowledged, added, reply, after}
use Rattle.protocol.specs.Operations.{Outcome}
use Rattle.protocol.specs.Seen.{block_of}
use Rattle.protocol.specs.Setting.{first_stamp}
use Rattle.protocol.proofs.lemmas.Counting.{nobody_counts}
use Rattle.protocol.proofs.lemmas.Order.{same_stamp-≡, same_stamp-refl}
use Rattle.node_core.specs.Seen.{SeenNode, versions_in, new_node, reply_of}
use Rattle.node_core.proofs.lemmas.Blocks.{not_of_first}
use Rattle.disk_model.specs.Crash.{Pending}
use Rattle.version_disk.specs.Deeds.{after_deed, after_asks, replies_of}
use Rattle.version_disk.specs.Deeds.Deed.{Answers}
use Rattle.version_disk.specs.Stored.{Stored}
use Rattle.block_phases.specs.Executions.{StampedValue}
use Rattle.block_turns.specs.Turns.{with_one}
use Rattle.block_turns.specs.Lives.{renewed}
use Rattle.block_turns.specs.Laws.{LatestAreBlocks}
use Rattle.store_device.specs.Lives.{life_on}
use Rattle.store_device.specs.Calls.{Deed as CallDeed, Call, Acknowledged, given_after, given_by, given_on, given_through}
use Rattle.store_device.specs.Calls.Deed.{Performs}
use Rattle.store_device.specs.Sessions.{given_in, CallsAcknowledge}
use Rattle.store_care.specs.Given.{Given, block_at, given, outcome_at, reads_from}
use Rattle.store_care.specs.Tallies.{failed_reads, given_at, one_more as one_more_told, one_more_if}
use Rattle.store_care.specs.Looking.{IsReading}
use Rattle.store_care.specs.Filling.{AreFilling, AreGroups, FilledAreRebuilt, IsFilling, HasKept, asks_by, asks_for, count_of, first_of, groups_of, nothing, version_for, with_missed, with_replies, with_reply}
use Rattle.store_care.specs.declared.filling.Filled.{Filled}
use Rattle.store_care.proofs.Looked.{was_given}
use Rattle.store_care.proofs.Reading.{length-reads_from, read_at}

-- ---- what is counted as missed

some_missed : (n : ℕ) → min (n + 1) (2 ^ 64 - 1) ≡ 0 → ⊥
some_missed n e = absurd (grind arith)

all_missed : (n more : ℕ) → min (n + more) (2 ^ 64 - 1) ≡ 0 → (n ≡ 0) × (more ≡ 0)
all_missed n more e = (grind arith, grind arith)

-- where none is missed, all replies acknowledge
abbrev AllAck : List Reply → Type 0
AllAck replies = AllByRecursion (λ (r : Reply). r ≡ Ack) replies

none_missed : (replies : List Reply) (filled : Filled) → (with_replies filled replies).missed ≡ 0 → (filled.missed ≡ 0) × AllAck replies
none_missed [] filled none = (none, tt)
none_missed (Ack ∷ replies) filled none = let rest = none_missed replies (with_reply filled Ack) none in (rest.0, (refl, rest.1))
none_missed (TimeIs time ∷ replies) filled none = absurd (some_missed filled.missed (none_missed replies (with_reply filled (TimeIs time)) none).0)
none_missed (Found v ∷ replies) filled none = absurd (some_missed filled.missed (none_missed replies (with_reply filled (Found v)) none).0)
none_missed (Nothing ∷ replies) filled none = absurd (some_missed filled.missed (none_missed replies (with_reply filled Nothing) none).0)
none_missed (Refused reason ∷ replies) filled none = absurd (some_missed filled.missed (none_missed replies (with_reply filled (Refused reason)) none).0)

-- and each read gave something
none_failed : (size : ℕ) (outcomes : List (Option Outcome)) (k missed : ℕ) → failed_reads size outcomes k missed ≡ 0
    → (missed ≡ 0) × ((j : ℕ) → j < k → (g : Given) × (given_at size outcomes j ≡ Some g))
none_failed size outcomes zero missed none = (none, λ j lt. absurd (omega (arith, lt)))
none_failed size outcomes (suc k) missed none = at (given_at size outcomes k) refl (none_failed size outcomes k missed) none
  where
    at : (o : Option Given) → given_at size outcomes k ≡ o
        → (failed_reads size outcomes k missed ≡ 0 → (missed ≡ 0) × ((j : ℕ) → j < k → (g : Given) × (given_at size outcomes j ≡ Some g)))
        → one_more_if (is_none o) (failed_reads size outcomes k missed) ≡ 0
        → (missed ≡ 0) × ((j : ℕ) → j < suc k → (g : Given) × (given_at size outcomes j ≡ Some g))
    at None e before h = absurd (some_missed (failed_reads size outcomes k missed) h)
    at (Some g) e before h =
        let rest = before h in (
          rest.0,
          λ j lt. elim (cases_lt j k) [
            | inl lower ↦ rest.1 j lower
            | inr behind ↦ (let same : k ≡ j = omega (arith, lt, behind) in (g, ap (given_at size outcomes) (sym same) ∙ e))
          ],
        )

-- ---- asks, one after the other

after_append : (node : SeenNode) (asks more : List Ask) → after_asks node (asks ++ more) ≡ after_asks (after_asks node asks) more
after_append node [] more = refl
after_append node (ask ∷ asks) more = after_append (after_deed node (Answers ask)) asks more

replies_append : (node : SeenNode) (asks more : List Ask) → replies_of node (asks ++ more) ≡ replies_of node asks ++ replies_of (after_asks node asks) more
replies_append node [] more = refl
replies_append node (ask ∷ asks) more = ap (λ (rs : List Reply). reply_of node ask ∷ rs) (replies_append (after_deed node (Answers ask)) asks more)

acks_parts : (replies more : List Reply) → AllAck (replies ++ more) → AllAck replies × AllAck more
acks_parts [] more all = (tt, all)
acks_parts (r ∷ replies) more all = let rest = acks_parts replies more all.1 in ((all.0, rest.0), rest.1)

none_refused : (o : Option Reason) → acknowledged o ≡ Ack → o ≡ None
none_refused None e = refl
none_refused (Some reason) e = absurd (let f : Refused reason ≡ Ack = e in cc)

-- a version that is acknowledged and whose stamp isn't kept yet is added
added_there : (d : Numbers) (i : ℕ) (vs : List Version) (block : ℕ) (v : Version) → block < d.blocks
    → reply (setting d) i vs (record { block = block; request = Write v }) ≡ Ack → keeps vs v.stamp ≡ false
    → after (setting d) i vs (record { block = block; request = Write v }) ≡ vs ++ v ∷ []
added_there d i vs block v below acked new =
    let there : nat_lt block d.blocks ≡ true = lt-ltb block d.blocks below in
    let fine = none_refused (refusal (setting d) i v) (sym (ap (λ (b : Bool). cond b (acknowledged (refusal (setting d) i v)) (Refused BadBlock)) there) ∙ acked) in
    ap (λ (b : Bool). one_more vs (cond b (added (refusal (setting d) i v) vs v) None)) there
    ∙ ap (λ (o : Option Reason). one_more vs (added o vs v)) fine
    ∙ ap (λ (b : Bool). one_more vs (cond b None (Some v))) new

module _ (c : Numbers) (number : ℕ) where
  abbrev first : Version
  first = first_version (setting c) number

  -- what a node keeps of a block of which a read gave this
  abbrev kept_of : Given → List Version
  kept_of g = cond (eqb g.stamp.time 0) (first ∷ []) (first ∷ version_for c number g ∷ [])

  -- a node of the cluster
  record IsNode (node : SeenNode) : Type 0 where
    config : node.config ≡ c
    numbered : node.number ≡ number
    long : length node.blocks ≡ c.blocks

  -- ---- one ask

  abbrev ask_for : ℕ → Given → Ask
  ask_for block g = record { block = block; request = Write (version_for c number g) }

  abbrev then : SeenNode → ℕ → Given → Bool → SeenNode
  then node block g b = after_asks node (cond b [] (ask_for block g ∷ []))

  other_stamp : (g : Given) → 1 ≤ g.stamp.time → same_stamp (first_stamp (setting c)) g.stamp ≡ false
  other_stamp g late = elim (cases_Bool (same_stamp (first_stamp (setting c)) g.stamp)) [
    | inl same ↦ absurd (
        let e : first_stamp (setting c) ≡ g.stamp = same_stamp-≡ (first_stamp (setting c)) g.stamp same in
        let t : 0 ≡ g.stamp.time = ap (λ (s : Stamp). s.time) e in
        omega (arith, t, late))
    | inr apart ↦ apart
  ]

  is_late : (g : Given) → eqb g.stamp.time 0 ≡ false → 1 ≤ g.stamp.time
  is_late g e = elim (cases_lt 0 g.stamp.time) [
    | inl l ↦ omega (arith, l)
    | inr l ↦ absurd (false≢true (sym e ∙ eq-eqb g.stamp.time 0 (omega (arith, l))))
  ]

  one_ask : (node : SeenNode) (block : ℕ) (g : Given) → IsNode node → block < c.blocks → versions_in node block ≡ first ∷ []
      → AllAck (replies_of node (asks_by c number block (Some g)))
      → IsNode (after_asks node (asks_by c number block (Some g)))
      × (versions_in (after_asks node (asks_by c number block (Some g))) block ≡ kept_of g)
      × ((other : ℕ) → other ≢ block → versions_in (after_asks node (asks_by c number block (Some g))) other ≡ versions_in node other)
  one_ask node block g is below has acks = at (eqb g.stamp.time 0) refl acks
    where
      at : (b : Bool) → eqb g.stamp.time 0 ≡ b → AllAck (replies_of node (cond b [] (ask_for block g ∷ [])))
          → IsNode (then node block g b) × (versions_in (then node block g b) block ≡ cond b (first ∷ []) (first ∷ version_for c number g ∷ []))
          × ((other : ℕ) → other ≢ block → versions_in (then node block g b) other ≡ versions_in node other)
      at true e all = (is, has, λ other apart. refl)
      at false e all =
          let v = version_for c number g in
          let now = after (setting node.config) node.number (versions_in node block) (ask_for block g) in
          let unkept : keeps (first ∷ []) v.stamp ≡ false = ap (λ (b : Bool). b || false) (other_stamp g (is_late g e)) in
          let added : now ≡ first ∷ v ∷ [] =
          added_there node.config node.number (versions_in node block) block v (subst (λ (d : Numbers). block < d.blocks) (sym is.config) below) all.0
          (ap (λ (vs : List Version). keeps vs v.stamp) has ∙ unkept)
          ∙ ap (λ (vs : List Version). vs ++ v ∷ []) has in (
            record { config = is.config; numbered = is.numbered; long = length-set node.blocks block now ∙ is.long },
            get_or-set_same node.blocks block now [] (let l = is.long in omega (arith, l, below)) ∙ added,
            λ other apart. get_or-set_other node.blocks block other now [] apart,
          )

  -- ---- what this many reads gave

  module _ (first_block count : ℕ) (outcomes : List (Option Outcome)) (node : SeenNode) (is : IsNode node) (inside : first_block + count ≤ c.blocks)
      (fresh : (j : ℕ) → j < count → versions_in node (first_block + j) ≡ first ∷ [])
      (gave : (j : ℕ) → j < count → (g : Given) × (given_at c.size outcomes j ≡ Some g)) where
    abbrev asked : ℕ → List Ask
    asked k = asks_for c number (reads_from first_block count) outcomes k

    record Keeps (k : ℕ) : Type 0 where
      node_is : IsNode (after_asks node (asked k))
      done : (j : ℕ) (below : j < count) → j < k → versions_in (after_asks node (asked k)) (first_block + j) ≡ kept_of (gave j below).0
      rest : (block : ℕ) → (block < first_block) ⊎ (first_block + k ≤ block) → versions_in (after_asks node (asked k)) block ≡ versions_in node block

    block_is : (k : ℕ) → k < count → block_at (reads_from first_block count) k ≡ first_block + k
    block_is k lt =
        get_or-map block_of (reads_from first_block count) k (Read (first_block + k)) 0 (let l = length-reads_from first_block count in omega (arith, l, lt))
        ∙ ap block_of (at (slice_get-get_or (reads_from first_block count) k (Read (first_block + k)) (let l = length-reads_from first_block count in omega (arith, l, lt))))
      where
        at : slice_get (reads_from first_block count) k ≡ Some (get_or (reads_from first_block count) k (Read (first_block + k)))
            → get_or (reads_from first_block count) k (Read (first_block + k)) ≡ Read (first_block + k)
        at e = let f : Some (get_or (reads_from first_block count) k (Read (first_block + k))) ≡ Some (Read (first_block + k)) = sym e ∙ read_at first_block count k lt in cc

    one_read : (k : ℕ) → k < count → AllAck (replies_of (after_asks node (asked k)) (asks_by c number (first_block + k) (given_at c.size outcomes k)))
        → Keeps k → Keeps (suc k)
    one_read k lt acks before =
        let g = gave k lt in
        let mid = after_asks node (asked k) in
        let last = asks_by c number (first_block + k) (Some g.0) in
        let step = one_ask mid (first_block + k) g.0 before.node_is (omega (arith, lt, inside))
        (before.rest (first_block + k) (inr (omega arith)) ∙ fresh k lt)
        (subst (λ (o : Option Given). AllAck (replies_of mid (asks_by c number (first_block + k) o))) g.1 acks) in
        let same : asked (suc k) ≡ asked k ++ last =
        ap (λ (b : ℕ). asked k ++ asks_by c number b (given_at c.size outcomes k)) (block_is k lt)
        ∙ ap (λ (o : Option Given). asked k ++ asks_by c number (first_block + k) o) g.1 in
        let then : after_asks node (asked (suc k)) ≡ after_asks mid last = ap (after_asks node) same ∙ after_append node (asked k) last in
        record {
          node_is = subst IsNode (sym then) step.0;
          done = λ j below lower. elim (cases_lt j k) [
            | inl earlier ↦
                ap (λ (n : SeenNode). versions_in n (first_block + j)) then
                ∙ step.2 (first_block + j) (λ e. omega (arith, e, earlier)) ∙ before.done j below earlier
            | inr later ↦ (
                let here : k ≡ j = omega (arith, lower, later) in
                ap (λ (n : SeenNode). versions_in n (first_block + j)) then
                ∙ ap (λ (i : ℕ). versions_in (after_asks mid last) (first_block + i)) (sym here)
                ∙ step.1 ∙ same_given k j here lt below)
          ];
          rest = λ block outside.
              ap (λ (n : SeenNode). versions_in n block) then
              ∙ step.2 block (elim outside [ inl low ↦ λ e. omega (arith, e, low) | inr high ↦ λ e. omega (arith, e, high) ])
              ∙ before.rest block (elim outside [ inl low ↦ inl low | inr high ↦ inr (omega (arith, high)) ]);
        }
      where
        same_given : (k j : ℕ) → k ≡ j → (a : k < count) (b : j < count) → kept_of (gave k a).0 ≡ kept_of (gave j b).0
        same_given k j e a b =
            let p = (gave k a).1 in
            let q = (gave j b).1 in
            let f : Some (gave k a).0 ≡ Some (gave j b).0 = sym p ∙ ap (given_at c.size outcomes) e ∙ q in
            let g : (gave k a).0 ≡ (gave j b).0 = cc in
            ap kept_of g

    all_reads : (k : ℕ) → k ≤ count → AllAck (replies_of node (asked k)) → Keeps k
    all_reads zero few acks = record {
      node_is = is;
      done = λ j below lower. absurd (omega (arith, lower));
      rest = λ block outside. refl;
    }
    all_reads (suc k) few acks =
        let lt : k < count = omega (arith, few) in
        let same : asked (suc k) ≡ asked k ++ asks_by c number (first_block + k) (given_at c.size outcomes k) =
        ap (λ (b : ℕ). asked k ++ asks_by c number b (given_at c.size outcomes k)) (block_is k lt) in
        let parts = acks_parts (replies_of node (asked k)) (replies_of (after_asks node (asked k)) (asks_by c number (first_block + k) (given_at c.size outcomes k)))
        (subst AllAck (replies_append node (asked k) (asks_by c number (first_block + k) (given_at c.size outcomes k)))
        (subst (λ (asks : List Ask). AllAck (replies_of node asks)) same acks)) in
        one_read k lt parts.1 (all_reads k (omega (arith, few)) parts.0)

-- ---- what reads acknowledge

abbrev stamped : Given → StampedValue
stamped g = record { stamp = g.stamp; value = g.value }

-- nothing on other blocks
given_elsewhere : (count first block : ℕ) (outcomes : List (Option Outcome)) (xs : List StampedValue) → (block < first) ⊎ (first + count ≤ block)
    → given_on block (reads_from first count) outcomes xs ≡ xs
given_elsewhere zero first block outcomes xs outside = refl
given_elsewhere (suc count) first block [] xs outside = refl
given_elsewhere (suc count) first block (o ∷ outcomes) xs outside =
    at (eqb first block) refl (given_elsewhere count (first + 1) block outcomes xs rest)
  where
    rest : (block < first + 1) ⊎ (first + 1 + count ≤ block)
    rest = elim outside [ inl low ↦ inl (omega (arith, low)) | inr high ↦ inr (omega (arith, high)) ]

    at : (b : Bool) → eqb first block ≡ b → given_on block (reads_from (first + 1) count) outcomes xs ≡ xs
        → cond b (with_one (given_by (Read first) o) xs) (given_on block (reads_from (first + 1) count) outcomes xs) ≡ xs
    at true e others = let same = eqb-true first block e in absurd (elim outside [ inl low ↦ omega (arith, low, same) | inr high ↦ omega (arith, high, same) ])
    at false e others = others

given_there : (size count first j : ℕ) (outcomes : List (Option Outcome)) (xs : List StampedValue) (g : Given) → j < count
    → given_at size outcomes j ≡ Some g → given_on (first + j) (reads_from first count) outcomes xs ≡ stamped g ∷ xs
given_there size zero first j outcomes xs g lt is = absurd (omega (arith, lt))
given_there size (suc count) first j [] xs g lt is = absurd (let e : None ≡ Some g = is in cc)
given_there size (suc count) first zero (o ∷ outcomes) xs g lt is =
    let was = was_given size o g is in
    ap (λ (b : Bool). cond b (with_one (given_by (Read first) o) xs) (given_on (first + 0) (reads_from (first + 1) count) outcomes xs))
    (eq-eqb first (first + 0) (omega arith))
    ∙ ap (λ (p : Option Outcome). with_one (given_by (Read first) p) xs) was.is
given_there size (suc count) first (suc j) (o ∷ outcomes) xs g lt is =
    at (eqb first (first + suc j)) refl (given_there size count (first + 1) j outcomes xs g (omega (arith, lt)) is)
  where
    next : first + suc j ≡ first + 1 + j
    next = omega arith

    at : (b : Bool) → eqb first (first + suc j) ≡ b → given_on (first + 1 + j) (reads_from (first + 1) count) outcomes xs ≡ stamped g ∷ xs
        → cond b (with_one (given_by (Read first) o) xs) (given_on (first + suc j) (reads_from (first + 1) count) outcomes xs) ≡ stamped g ∷ xs
    at true e others = let same = eqb-true first (first + suc j) e in absurd (omega (arith, same))
    at false e others = ap (λ (b : ℕ). given_on b (reads_from (first + 1) count) outcomes xs) next ∙ others

-- ---- the groups of blocks, one after the other

next_first : (blocks group : ℕ) → first_of blocks (group + 1) ≡ first_of blocks group + count_of blocks group
next_first blocks group = grind arith

inside_all : (blocks group : ℕ) → first_of blocks group + count_of blocks group ≤ blocks
inside_all blocks group = grind arith

all_groups : (blocks : ℕ) → blocks ≤ first_of blocks (groups_of blocks)
all_groups blocks = grind arith

module _ {E : Type 0} (pending : E → Pending) (seen : E → List ℕ) where
  -- the node kept all that it was asked, where in the end none is missed and the node is up
  kept_all : (asks : List Ask) (old new : Filled) (was is : Stored E) → HasKept pending seen asks old new was is → new.missed ≡ 0 → is.broken ≡ false
      → (old.missed ≡ 0) × (was.broken ≡ false) × (is.node ≡ after_asks was.node asks) × AllAck (replies_of was.node asks)
  kept_all asks old new was is (inl kept) none whole =
      let acks = none_missed (replies_of was.node asks) old (sym (ap (λ (f : Filled). f.missed) kept.3) ∙ none) in
      (acks.0, kept.4, kept.0, acks.1)
  kept_all asks old new was is (inr refused) none whole =
      let both = all_missed old.missed (length asks) (sym (ap (λ (f : Filled). f.missed) refused.1) ∙ none) in
      let same : is ≡ was = elim refused.0 [
        | inl e ↦ e
        | inr broken ↦ absurd (false≢true (sym whole ∙ broken))
      ] in
      let nothing_asked = none_left asks both.1 in (
        both.0,
        sym (ap (λ (n : Stored E). n.broken) same) ∙ whole,
        ap (λ (n : Stored E). n.node) same ∙ ap (λ (l : List Ask). after_asks was.node l) (sym nothing_asked),
        subst (λ (l : List Ask). AllAck (replies_of was.node l)) (sym nothing_asked) tt,
      )
    where
      none_left : (l : List Ask) → length l ≡ 0 → l ≡ []
      none_left [] e = refl
      none_left (ask ∷ l) e = absurd (omega (arith, e))

module _ {D E : Type 0} (pending : E → Pending) (seen : E → List ℕ) (c : Numbers) (number : ℕ) where
  -- a group that was read, and kept
  record IsStep (first_block count : ℕ) (call : Call D) (old : Filled) (was is : Stored E) : Type 0 where
    outcomes : List (Option Outcome)
    deed : call.deed ≡ Performs (reads_from first_block count) (Some outcomes)
    none : old.missed ≡ 0
    up : was.broken ≡ false
    gave : (j : ℕ) → j < count → (g : Given) × (given_at c.size outcomes j ≡ Some g)
    state : is.node ≡ after_asks was.node (asks_for c number (reads_from first_block count) outcomes count)
    acks : AllAck (replies_of was.node (asks_for c number (reads_from first_block count) outcomes count))

  step_of : (first_block count : ℕ) (call : Call D) (old new : Filled) (was is : Stored E) → IsReading first_block count call
      → IsFilling pending seen c number call old new was is → new.missed ≡ 0 → is.broken ≡ false → IsStep first_block count call old was is
  step_of first_block count call old new was is reading filling none whole =
      let reads : filling.reads ≡ reads_from first_block count = (
      let e : Performs filling.reads (Some filling.outcomes) ≡ Performs (reads_from first_block count) reading.told = sym filling.read ∙ reading.is in cc) in
      let long : length filling.reads ≡ count = ap (λ (ops : List Op). length ops) reads ∙ length-reads_from first_block count in
      let start : Filled = record old { missed = failed_reads c.size filling.outcomes count old.missed } in
      let kept : HasKept pending seen (asks_for c number (reads_from first_block count) filling.outcomes count) start new was is =
      subst (λ (ops : List Op). HasKept pending seen (asks_for c number ops filling.outcomes count) start new was is) reads
      (subst (λ (k : ℕ). HasKept pending seen (asks_for c number filling.reads filling.outcomes k) (record old { missed = failed_reads c.size filling.outcomes k old.missed }) new was is) long filling.kept) in
      let all = kept_all pending seen (asks_for c number (reads_from first_block count) filling.outcomes count) start new was is kept none whole in
      let gave = none_failed c.size filling.outcomes count old.missed all.0 in
      record {
        outcomes = filling.outcomes;
        deed = filling.read ∙ ap (λ (ops : List Op). Performs ops (Some filling.outcomes)) reads;
        none = gave.0;
        up = all.1;
        gave = gave.1;
        state = all.2;
        acks = all.3;
      }

  -- so it was before, too
  backwards : (calls : List (Call D)) (group : ℕ) (old new : Filled) (was is : Stored E) → AreGroups c.blocks group calls
      → AreFilling pending seen c number calls old new was is → new.missed ≡ 0 → is.broken ≡ false → (old.missed ≡ 0) × (was.broken ≡ false)
  backwards [] group old new was is groups same none whole = (
    sym (ap (λ (f : Filled). f.missed) same.0) ∙ none,
    sym (ap (λ (n : Stored E). n.broken) same.1) ∙ whole,
  )
  backwards (call ∷ calls) group old new was is groups filling none whole =
      let rest = backwards calls (group + 1) filling.0 new filling.1 is groups.1 filling.3 none whole in
      let step = step_of (first_of c.blocks group) (count_of c.blocks group) call old filling.0 was filling.1 groups.0 filling.2 rest.0 rest.1 in
      (step.none, step.up)

  -- what calls from a group on leave of the node, and acknowledge
  record IsFilled (group : ℕ) (calls : List (Call D)) (was is : Stored E) (known : Acknowledged) : Type 0 where
    before : (block : ℕ) → block < first_of c.blocks group
        → (versions_in is.node block ≡ versions_in was.node block) × (given_through known calls block ≡ known block)
    behind : (block : ℕ) → first_of c.blocks group ≤ block → block < c.blocks
        → (g : Given) × (given_through known calls block ≡ stamped g ∷ known block) × (versions_in is.node block ≡ kept_of c number g)

  filled_from : (calls : List (Call D)) (group : ℕ) (old new : Filled) (was is : Stored E) (known : Acknowledged) → AreGroups c.blocks group calls
      → AreFilling pending seen c number calls old new was is → group + length calls ≡ groups_of c.blocks → new.missed ≡ 0 → is.broken ≡ false
      → IsNode c number was.node
      → ((block : ℕ) → first_of c.blocks group ≤ block → block < c.blocks → versions_in was.node block ≡ first c number ∷ [])
      → IsFilled group calls was is known
  filled_from [] group old new was is known groups same many none whole node fresh = record {
    before = λ block low. (ap (λ (n : Stored E). versions_in n.node block) same.1, refl);
    behind = λ block high low. absurd (
        let last : group ≡ groups_of c.blocks = omega (arith, many) in
        let all : c.blocks ≤ first_of c.blocks group = subst (λ (k : ℕ). c.blocks ≤ first_of c.blocks k) (sym last) (all_groups c.blocks) in
        omega (arith, all, high, low));
  }
  filled_from (call ∷ calls) group old new was is known groups filling many none whole node fresh =
      let low = first_of c.blocks group in
      let count = count_of c.blocks group in
      let between = filling.1 in
      let later = backwards calls (group + 1) filling.0 new between is groups.1 filling.3 none whole in
      let step = step_of low count call old filling.0 was between groups.0 filling.2 later.0 later.1 in
      let next = next_first c.blocks group in
      let keeps = all_reads c number low count step.outcomes was.node node (inside_all c.blocks group)
      (λ j lt. fresh (low + j) (omega arith) (let inside = inside_all c.blocks group in omega (arith, inside, lt))) step.gave count (omega arith) step.acks in
      let here = λ (block : ℕ). ap (λ (n : SeenNode). versions_in n block) step.state in
      let then = given_after known call.deed in
      let told = λ (block : ℕ). ap (λ (d : CallDeed). given_after known d block) step.deed in
      let rest = filled_from calls (group + 1) filling.0 new between is then groups.1 filling.3 (omega (arith, many)) none whole
      (subst (IsNode c number) (sym step.state) keeps.node_is)
      (λ block high below. here block ∙ keeps.rest block (inr (omega (arith, high, next))) ∙ fresh block (omega (arith, high, next)) below) in
      record {
        before = λ block lt.
            let r = rest.before block (omega (arith, lt, next)) in (
              r.0 ∙ here block ∙ keeps.rest block (inl lt),
              r.1 ∙ told block ∙ given_elsewhere count low block step.outcomes (known block) (inl lt),
            );
        behind = λ block high below. elim (cases_lt block (low + count)) [
          | inl lt ↦ (
              let j : ℕ = block - low in
              let is_block : low + j ≡ block = omega (arith, high) in
              let in_group : j < count = omega (arith, high, lt) in
              let r = rest.before block (omega (arith, lt, next)) in
              let g = step.gave j in_group in (
                g.0,
                r.1 ∙ told block
                    ∙ ap (λ (b : ℕ). given_on b (reads_from low count) step.outcomes (known block)) (sym is_block)
                    ∙ given_there c.size count low j step.outcomes (known block) g.0 in_group g.1,
                r.0 ∙ here block ∙ ap (λ (b : ℕ). versions_in (after_asks was.node (asks_for c number (reads_from low count) step.outcomes count)) b) (sym is_block)
                    ∙ keeps.done j in_group in_group,
              ))
          | inr over ↦ (
              let r = rest.behind block (omega (arith, over, next)) below in (
                r.0,
                r.1 ∙ ap (λ (xs : List StampedValue). stamped r.0 ∷ xs) (told block ∙ given_elsewhere count low block step.outcomes (known block) (inr over)),
                r.2,
              ))
        ];
      }

module _ (c : Numbers) (number : ℕ) where
  -- what the node keeps is what a rebuilt node does
  as_renewed : (g : Given) → (0 < g.stamp.time) ⊎ (g.stamp ≡ first_stamp (setting c)) → kept_of c number g ≡ renewed (setting c) (stamped g) number
  as_renewed g (inl late) =
      ap (λ (b : Bool). cond b (first c number ∷ []) (first c number ∷ version_for c number g ∷ [])) none
      ∙ sym (ap (λ (b : Bool). cond b (first c number ∷ []) (first c number ∷ version_for c number g ∷ []))
      (not_of_first g.stamp (first_stamp (setting c)) refl (omega (arith, late))))
    where
      none : eqb g.stamp.time 0 ≡ false
      none = elim (cases_Bool (eqb g.stamp.time 0)) [
        | inl is ↦ absurd (let e = eqb-true g.stamp.time 0 is in omega (arith, e, late))
        | inr is ↦ is
      ]
  as_renewed g (inr same) =
      ap (λ (b : Bool). cond b (first c number ∷ []) (first c number ∷ version_for c number g ∷ [])) (eq-eqb g.stamp.time 0 (ap (λ (s : Stamp). s.time) same))
      ∙ sym (ap (λ (b : Bool). cond b (first c number ∷ []) (first c number ∷ version_for c number g ∷ []))
      (ap (λ (s : Stamp). same_stamp s (first_stamp (setting c))) same ∙ same_stamp-refl (first_stamp (setting c))))

pub filled_rebuilt : {D E : Type 0} (storing : D → Pending) (holds : D → List ℕ) (pending : E → Pending) (seen : E → List ℕ)
    → CallsAcknowledge storing holds → InEachCluster LatestAreBlocks → FilledAreRebuilt D pending seen
filled_rebuilt {D} {E} storing holds pending seen acknowledge latest c number bytes life more calls filled node valid lived turns groups empty by none whole block there apart =
    let start : by.0.node ≡ new_node c number = by.1.state ∙ empty in
    let all = filled_from pending seen c number calls 0 nothing filled by.0 node (given_in c life) groups by.3 (omega (arith, by.2)) none whole
    (subst (IsNode c number) (sym start) (record { config = refl; numbered = refl; long = length-replicate c.blocks (first c number ∷ []) }))
    (λ b low below. ap (λ (n : SeenNode). versions_in n b) start ∙ get_or-replicate c.blocks b (first c number ∷ []) [] below) in
    let r = all.behind block (grind arith) there in
    let given = acknowledge c life more calls block lived turns ∙ r.1 in
    let known = latest c nobody nobody (record { config = valid; few = (let e = nobody_counts c.n in omega (arith, e)) }) block (life_on block (life ++ more))
    (lived.each block there) apart (stamped r.0) (given_in c life block) given in
    (stamped r.0, given_in c life block, given, r.2 ∙ as_renewed c number r.0 known.1)
