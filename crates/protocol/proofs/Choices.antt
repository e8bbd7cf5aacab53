-- Writes that have chosen a stamp keep it, and are never fewer.
use Rattle.std.proofs.Common.{◌≡◌, ℕ, ◌+◌, ◌≤◌, Bool, true, false, cond, ◌&&◌, List, [], ◌∷◌, ◌++◌, map, Option, refl, sym, ◌∙◌, ap, subst, inl, inr, arith, eqb}
use Rattle.std.specs.declared.option.Option.TheVariants.{None, Some}
use Rattle.std.specs.List.{Contains}
use Rattle.std.proofs.lemmas.Bool.Decides.{nat_tests}
use Rattle.stamp_order.specs.declared.Stamp.{Stamp}
use Rattle.protocol.specs.Messages.{Reply, Body, Message}
use Rattle.wire_forms.specs.declared.Request.TheVariants.{Write}
use Rattle.wire_forms.specs.declared.Body.TheVariants.{Ask as Asks}
use Rattle.protocol.specs.Setting.{Setting}
use Rattle.protocol.specs.Operations.{Task, Work, Stage, Decision, decide, stored}
use Rattle.protocol.specs.Operations.Work.{Reads, Writes}
use Rattle.protocol.specs.Operations.Stage.{Times, Versions, Storing}
use Rattle.protocol.specs.Operations.Decision.{GoesOn, Ends}
use Rattle.protocol.specs.World.{World, Record, open_record, chosen_stamp, stamp_of_outcome, replaced_by, with_record, under_way}
use Rattle.protocol.specs.History.{HasWrite, HasLie}
use Rattle.protocol.specs.Bounds.{lied_time, lied, is_chosen, choices}
use Rattle.protocol.proofs.lemmas.Tests.{are_same, same_are}
use Rattle.protocol.proofs.Invariant.{IsSafe}
use Rattle.protocol.proofs.Heard.{filled}
use Rattle.lists.proofs.lemmas.Members.{Contains-head, Contains-none, Contains-rest, Contains-cons_cases, Contains-map}

-- the record takes the place of one of the same operation, and keeps the stamp that it had chosen
pub record IsNewer (old r : Record) : Type 0 where
  pub client : old.client ≡ r.client
  pub start : old.start ≡ r.start
  pub block : old.block ≡ r.block
  pub work : old.work ≡ r.work
  pub stamp : (value : List ℕ) (t : Stamp) → old.work ≡ Writes value → old.stamp ≡ Some t → r.stamp ≡ Some t

module _ (rs : List Record) (old r : Record) (newer : IsNewer old r) (only : (x : Record) → Contains rs x → x.client ≡ r.client → x.start ≡ r.start → x ≡ old) where
  -- a write that chose a stamp is there still
  pub writes_still : (block : ℕ) (stamp : Stamp) → HasWrite rs block stamp → HasWrite (with_record rs r) block stamp
  writes_still block stamp h = at (eqb h.write.client r.client && eqb h.write.start r.start) refl (Contains-map (replaced_by r) rs h.write h.there)
    where
      at : (b : Bool) → eqb h.write.client r.client && eqb h.write.start r.start ≡ b → Contains (with_record rs r) (cond (eqb h.write.client r.client && eqb h.write.start r.start) r h.write) → HasWrite (with_record rs r) block stamp
      at false e k = record { write = h.write; there = (let l : Contains (with_record rs r) (cond false r h.write) = rw e at k in l); of_block = h.of_block; value = h.value; writes = h.writes; chose = h.chose }
      at true e k =
          let q = are_same h.write.client r.client h.write.start r.start e in
          let is = only h.write h.there q.0 q.1 in
          let work : old.work ≡ Writes h.value = sym (ap (λ (x : Record). x.work) is) ∙ h.writes in
          let chose : old.stamp ≡ Some stamp = sym (ap (λ (x : Record). x.stamp) is) ∙ h.chose in
          record {
            write = r;
            there = (let l : Contains (with_record rs r) (cond true r h.write) = rw e at k in l);
            of_block = sym newer.block ∙ sym (ap (λ (x : Record). x.block) is) ∙ h.of_block;
            value = h.value;
            writes = sym newer.work ∙ work;
            chose = newer.stamp h.value stamp work chose;
          }

  one : (block : ℕ) (x : Record) → ℕ
  one block x = cond (eqb x.block block && is_chosen x.work x.stamp) 1 0

  chosen_more : (w v : Work) (o p : Option Stamp) → w ≡ v → ((value : List ℕ) (t : Stamp) → w ≡ Writes value → o ≡ Some t → p ≡ Some t) → is_chosen w o ≡ true → is_chosen v p ≡ true
  chosen_more Reads v o p e h k = absurd (cc)
  chosen_more (Writes value) v None p e h k = absurd (cc)
  chosen_more (Writes value) v (Some t) p e h k = rw (← e, h value t refl refl) refl

  grows_at : (block : ℕ) (b1 b2 c1 c2 : Bool) → b1 ≡ b2 → (c1 ≡ true → c2 ≡ true) → cond {A = ℕ} (b1 && c1) 1 0 ≤ cond (b2 && c2) 1 0
  grows_at block true true true true e h = omega arith
  grows_at block true true true false e h = absurd (cc (h refl))
  grows_at block true true false c2 e h = omega arith
  grows_at block true false c1 c2 e h = absurd (cc)
  grows_at block false b2 c1 c2 e h = omega arith

  one_replaced : (block : ℕ) (x : Record) → Contains rs x → cond {A = ℕ} (eqb x.block block && is_chosen x.work x.stamp) 1 0 ≤ cond (eqb (replaced_by r x).block block && is_chosen (replaced_by r x).work (replaced_by r x).stamp) 1 0
  one_replaced block x there = at (eqb x.client r.client && eqb x.start r.start) refl
    where
      at : (b : Bool) → eqb x.client r.client && eqb x.start r.start ≡ b → cond {A = ℕ} (eqb x.block block && is_chosen x.work x.stamp) 1 0 ≤ cond (eqb (cond b r x).block block && is_chosen (cond b r x).work (cond b r x).stamp) 1 0
      at false e = omega arith
      at true e =
          let q = are_same x.client r.client x.start r.start e in
          let is = only x there q.0 q.1 in
          rw is (grows_at block (eqb old.block block) (eqb r.block block) (is_chosen old.work old.stamp) (is_chosen r.work r.stamp) (ap (λ (k : ℕ). eqb k block) newer.block) (chosen_more old.work r.work old.stamp r.stamp newer.work newer.stamp))

  map_choices : (block : ℕ) (xs : List Record) → ((x : Record) → Contains xs x → Contains rs x) → choices block xs ≤ choices block (map (replaced_by r) xs)
  map_choices block [] h = omega arith
  map_choices block (x ∷ xs) h = omega (arith, one_replaced block x (h x (Contains-head x xs)), map_choices block xs (λ y k. h y (Contains-rest y x xs k)))

  pub choices_still : (block : ℕ) → choices block rs ≤ choices block (with_record rs r)
  choices_still block = map_choices block rs (λ x h. h)

  -- and one more where the operation has just chosen
  just_chosen : (block : ℕ) → r.block ≡ block → is_chosen r.work r.stamp ≡ true → is_chosen old.work old.stamp ≡ false → (x : Record) → x ≡ old → cond {A = ℕ} (eqb x.block block && is_chosen x.work x.stamp) 1 0 + 1 ≤ cond (eqb (replaced_by r x).block block && is_chosen (replaced_by r x).work (replaced_by r x).stamp) 1 0
  just_chosen block of_b now before x is =
      rw is (let t = same_are old.client r.client old.start r.start newer.client newer.start in
      let z : cond {A = ℕ} (eqb old.block block && is_chosen old.work old.stamp) 1 0 ≡ 0 = none (eqb old.block block) (is_chosen old.work old.stamp) before in
      let y : cond {A = ℕ} (eqb r.block block && is_chosen r.work r.stamp) 1 0 ≡ 1 = (let e : eqb r.block block ≡ true = grind (arith, nat_tests) in rw (e, now) refl) in
      let u : cond {A = ℕ} (eqb (replaced_by r old).block block && is_chosen (replaced_by r old).work (replaced_by r old).stamp) 1 0 ≡ cond {A = ℕ} (eqb r.block block && is_chosen r.work r.stamp) 1 0 = rw t refl in
      omega (arith, z, y, u))
    where
      none : (b c : Bool) → c ≡ false → cond {A = ℕ} (b && c) 1 0 ≡ 0
      none true true e = absurd (cc)
      none true false e = refl
      none false c e = refl

  map_more : (block : ℕ) → r.block ≡ block → is_chosen r.work r.stamp ≡ true → is_chosen old.work old.stamp ≡ false → (xs : List Record) → ((x : Record) → Contains xs x → Contains rs x) → Contains xs old → choices block xs + 1 ≤ choices block (map (replaced_by r) xs)
  map_more block of_b now before [] h there = absurd (Contains-none old there)
  map_more block of_b now before (x ∷ xs) h there =
      let rest = map_more block of_b now before xs (λ y k. h y (Contains-rest y x xs k)) in
      elim (Contains-cons_cases old x xs there) [
        | inl e ↦ omega (arith, just_chosen block of_b now before x (sym e), map_choices block xs (λ y k. h y (Contains-rest y x xs k)))
        | inr k ↦ omega (arith, one_replaced block x (h x (Contains-head x xs)), rest k)
      ]

  pub choices_more : (block : ℕ) → r.block ≡ block → is_chosen r.work r.stamp ≡ true → is_chosen old.work old.stamp ≡ false → Contains rs old → choices block rs + 1 ≤ choices block (with_record rs r)
  choices_more block of_b now before there = map_more block of_b now before rs (λ x h. h) there

pub choices_push : (block : ℕ) (rs : List Record) (r : Record) → choices block rs ≤ choices block (rs ++ r ∷ [])
choices_push block [] r = omega arith
choices_push block (x ∷ xs) r = omega (arith, choices_push block xs r)

-- a record of the operation under way is its open record
pub only_open : (s : Setting) (w : World) → IsSafe s w → (c : ℕ) (task : Task) → under_way w c ≡ Some task → (x : Record) → Contains w.records x → x.client ≡ c → x.start ≡ task.start → x ≡ open_record c task
only_open s w safe c task busy x h e f = (safe.records x h).running task (ap (under_way w) e ∙ busy) f ∙ ap (λ (d : ℕ). open_record d task) e

-- a write that has chosen goes on to its end with its stamp
module _ (s : Setting) (c : ℕ) (task : Task) (answers : ℕ → Option Reply) where
  abbrev pub stamp_after : Work → Decision → Option Stamp
  stamp_after work (GoesOn stage) = chosen_stamp work stage
  stamp_after work (Ends outcome) = stamp_of_outcome outcome

  kept_at : (work : Work) (stage : Stage) → task.work ≡ work → (value : List ℕ) (t : Stamp) → work ≡ Writes value → chosen_stamp work stage ≡ Some t → stamp_after task.work (decide s c (filled task answers) stage) ≡ Some t
  kept_at Reads stage e value t f g = absurd (cc)
  kept_at (Writes v) Times e value t f g = absurd (cc)
  kept_at (Writes v) (Versions bound) e value t f g = absurd (cc)
  kept_at (Writes v) (Storing p u) e value t f g = subst (λ (k : Work). stamp_of_outcome (stored k task.rounds p u) ≡ Some t) (sym e) g

  pub keeps_stamp : (value : List ℕ) (t : Stamp) → task.work ≡ Writes value → chosen_stamp task.work task.stage ≡ Some t → stamp_after task.work (decide s c (filled task answers) task.stage) ≡ Some t
  keeps_stamp value t e f = kept_at task.work task.stage refl value t e f

-- the greatest time that was lied
module _ (s : Setting) where
  pub lied_push : (block : ℕ) (ms more : List Message) → lied s block ms ≤ lied s block (ms ++ more)
  lied_push block [] more = omega arith
  lied_push block (m ∷ ms) more = omega (arith, lied_push block ms more)

  lied_at : (block : ℕ) (ms : List Message) (m : Message) → Contains ms m → lied_time s block m m.body ≤ lied s block ms
  lied_at block [] m h = absurd (Contains-none m h)
  lied_at block (x ∷ ms) m h =
      let rest = lied_at block ms m in
      elim (Contains-cons_cases m x ms h) [ inl e ↦ rw e (omega arith) | inr k ↦ omega (arith, rest k) ]

  pub lie_low : (w : World) (block : ℕ) (stamp : Stamp) → HasLie s w block stamp → stamp.time ≤ lied s block w.pool
  lie_low w block stamp h =
      let e : lied_time s block h.message h.message.body ≡ stamp.time = body_time h.message.body h.asks in
      omega (arith, lied_at block w.pool h.message h.there, e)
    where
      self : eqb block block ≡ true
      self = grind (arith, nat_tests)

      body_time : (body : Body) → body ≡ Asks (record { block = block; request = Write h.version }) → lied_time s block h.message body ≡ stamp.time
      body_time body e = rw (e, h.lies, self) (ap (λ (t : Stamp). t.time) h.stamped)
