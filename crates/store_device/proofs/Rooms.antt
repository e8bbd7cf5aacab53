-- A node that is up when it was handed asks, and has room for them, has answered them.
use Rattle.std.proofs.Common.{◌≡◌, ◌⊎◌, inl, inr, Result, ℕ, ◌+◌, ◌*◌, ◌≤◌, Bool, true, false, not, ◌&&◌, ◌||◌, eqb, leb, List, [], ◌∷◌, ◌++◌, length, Option, Some, None, refl, ◌∙◌, ap, subst, arith}
use Rattle.std.proofs.lemmas.Bool.Decides.{nat_tests}
use Rattle.std.proofs.lemmas.List.{length-append, length-map}
use Rattle.std.proofs.lemmas.Nat.{mul-le}
use Rattle.quorum_rules.specs.Limits.{Numbers}
use Rattle.protocol.specs.Messages.{Ask, Version}
use Rattle.node_core.specs.Seen.{SeenNode, accepts_of}
use Rattle.slot_disk.specs.Bodies.{bodies}
use Rattle.slot_disk.specs.Slots.{Slot, body_len, slot_of}
use Rattle.version_disk.specs.declared.refusal.StoreRefusal.{StoreRefusal}
use Rattle.version_disk.specs.declared.refusal.StoreRefusal.TheVariants.{NoMemory, DiskFault, Broken, Full}
use Rattle.version_disk.specs.Refusals.{IfCalm, IfFailed}
use Rattle.version_disk.specs.Held.{slots_of}
use Rattle.version_disk.specs.Deeds.{after_deed, added_slots, slots_by, slots_by_all}
use Rattle.version_disk.specs.Deeds.Deed.{Answers}
use Rattle.version_disk.specs.Stored.{Stored, all_fit, has_places}
use Rattle.version_disk.specs.declared.prune.Prune.{Prune}
use Rattle.disk_model.specs.Crash.{Pending}
use Rattle.store_device.specs.Seating.{HasPruned, PrunesWholly}
use Rattle.store_device.specs.Answered.{has_room, RepliesIn, gave, is_memory}

-- fewer slots fit behind fewer
fit_fewer : (body count more fewer less room : ℕ) → fewer ≤ count → less ≤ more → all_fit body count more room ≡ true
    → all_fit body fewer less room ≡ true
fit_fewer body count more fewer less room l m fits = by (eqb less 0) refl
  where
    by : (b : Bool) → eqb less 0 ≡ b → b || leb ((fewer + less) * (body + 1) + 1) room ≡ true
    by true e = refl
    by false e = of (eqb more 0) refl fits
      where
        of : (b : Bool) → eqb more 0 ≡ b → b || leb ((count + more) * (body + 1) + 1) room ≡ true
            → leb ((fewer + less) * (body + 1) + 1) room ≡ true
        of true f fits = absurd (let q : less ≡ 0 = grind (arith, nat_tests) in grind (arith, nat_tests))
        of false f fits =
            let p : (fewer + less) * (body + 1) ≤ (count + more) * (body + 1) = mul-le (fewer + less) (body + 1) (count + more) (body + 1) (omega (arith, l, m)) (omega arith) in
            grind (arith, nat_tests)

-- asks write a slot each at most
few_added : (block : ℕ) (o : Option Version) → length (added_slots block o) ≤ 1
few_added block None = omega arith
few_added block (Some version) = omega arith

few_slots : (node : SeenNode) (asks : List Ask) → length (slots_by_all node asks) ≤ length asks
few_slots node [] = omega arith
few_slots node (ask ∷ asks) =
    let one = few_added ask.block (accepts_of node ask) in
    let rest = few_slots (after_deed node (Answers ask)) asks in
    let all = length-append (slots_by node (Answers ask)) (slots_by_all (after_deed node (Answers ask)) asks) in
    omega (arith, one, rest, all)

more_slots : (c : Numbers) (old new : List ℕ) (more : List Slot) → slots_of c new ≡ slots_of c old ++ more
    → length (bodies (body_len c) old) ≤ length (bodies (body_len c) new)
more_slots c old new more is =
    let a = length-map (bodies (body_len c) old) (slot_of c.n) in
    let b = length-map (bodies (body_len c) new) (slot_of c.n) in
    let d : length (slots_of c new) ≡ length (slots_of c old ++ more) = ap length is in
    let e = length-append (slots_of c old) more in
    omega (arith, a, b, d, e)

and_second : (a b : Bool) → a && b ≡ true → b ≡ true
and_second true b e = e
and_second false b e = absurd cc

and_first : (a b : Bool) → a && b ≡ true → a ≡ true
and_first true b e = refl
and_first false b e = absurd cc

module _ {D : Type 0} (seen : D → List ℕ) (most : D → ℕ) (was is : Stored D) where
  abbrev Room : ℕ → Stored D → Type 0
  Room more node = has_room seen most more (Some node) ≡ true

  -- a node that answered
  pub room_before : (more : ℕ) (slots : List Slot) → was.broken ≡ false → is.node.config ≡ was.node.config
      → slots_of was.node.config (seen is.disk) ≡ slots_of was.node.config (seen was.disk) ++ slots → most is.disk ≡ most was.disk
      → Room more is → Room more was
  room_before more slots whole config grown room has =
      let here : all_fit (body_len is.node.config) (length (bodies (body_len is.node.config) (seen is.disk))) more (most is.disk) ≡ true =
      and_second _ _ has in
      let c = was.node.config in
      let there : all_fit (body_len c) (length (bodies (body_len c) (seen is.disk))) more (most was.disk) ≡ true =
      subst (λ (m : ℕ). all_fit (body_len c) (length (bodies (body_len c) (seen is.disk))) more m ≡ true) room
      (subst (λ (d : Numbers). all_fit (body_len d) (length (bodies (body_len d) (seen is.disk))) more (most is.disk) ≡ true) config here) in
      let before : all_fit (body_len c) (length (bodies (body_len c) (seen was.disk))) more (most was.disk) ≡ true =
      fit_fewer (body_len c) (length (bodies (body_len c) (seen is.disk))) more (length (bodies (body_len c) (seen was.disk))) more
      (most was.disk) (more_slots c (seen was.disk) (seen is.disk) slots grown) (omega arith) there in
      rw (whole, before) refl

  -- one that is broken has none
  pub none_broken : (more : ℕ) → is.broken ≡ true → Room more is → ⊥
  none_broken more broken has = absurd (let e = and_first (not is.broken) _ has in let f : not is.broken ≡ false = ap not broken in cc)

  -- and one with room for the asks doesn't refuse for want of it
  pub none_full : (asks : List Ask) (more : ℕ) → is ≡ was → has_places was.node asks (seen was.disk) (most was.disk) ≡ false
      → length asks ≤ more → Room more is → ⊥
  none_full asks more same full few has =
      absurd (
      let here : Room more was = subst (λ (x : Stored D). Room more x) same has in
      let c = was.node.config in
      let slots = few_slots was.node asks in
      let fits : has_places was.node asks (seen was.disk) (most was.disk) ≡ true =
      fit_fewer (body_len c) (length (bodies (body_len c) (seen was.disk))) more (length (bodies (body_len c) (seen was.disk)))
      (length (slots_by_all was.node asks)) (most was.disk) (omega arith) (omega (arith, slots, few)) (and_second _ _ here) in
      cc)

  -- a node that refuses
  pub refused : {A E : Type 0} (asks : List Ask) (r : StoreRefusal) (result : Result (Option A) E) → gave result ≡ is_memory r
      → IfCalm (is ≡ was) r → IfFailed (is.broken ≡ true) r
      → (r ≡ Full → has_places was.node asks (seen was.disk) (most was.disk) ≡ false) → (r ≡ Broken → was.broken ≡ true)
      → RepliesIn seen most (length asks) (gave result) (Some was) (Some is)
  refused asks NoMemory result memory calm breaks full broken more few has = (subst (λ (x : Stored D). Room more x) calm has, memory)
  refused asks DiskFault result memory calm breaks full broken more few has = absurd (none_broken more breaks has)
  refused asks Broken result memory calm breaks full broken more few has =
      absurd (none_broken more (ap (λ (x : Stored D). x.broken) calm ∙ broken refl) has)
  refused asks Full result memory calm breaks full broken more few has = absurd (none_full asks more calm (full refl) few has)

  -- is as it was, or broken
  pub calm_or_broken : (r : StoreRefusal) → IfCalm (is ≡ was) r → IfFailed (is.broken ≡ true) r → (is ≡ was) ⊎ (is.broken ≡ true)
  calm_or_broken NoMemory calm breaks = inl calm
  calm_or_broken DiskFault calm breaks = inr breaks
  calm_or_broken Broken calm breaks = inl calm
  calm_or_broken Full calm breaks = inl calm

  -- ---- prunes

  module _ (pending : D → Pending) (prunes : List Prune) where
    -- a node that pruned
    pub pruned_wholly : (starved : Bool) → HasPruned pending seen prunes was is
        → PrunesWholly pending seen most prunes starved (Some was) (Some is)
    pruned_wholly starved done = record { wholly = λ fed room. (was, is, refl, refl, done) }
