-- In a run of lines no two operations start or end at one place.
use Rattle.std.proofs.Common.{◌≡◌, ℕ, ◌+◌, ◌-◌, ◌<◌, Bool, true, false, cond, List, [], ◌∷◌, ◌++◌, Option, refl, sym, ◌∙◌, ap, inl, inr, arith, ltb}
use Rattle.std.specs.declared.option.Option.TheVariants.{None, Some}
use Rattle.std.specs.List.{Contains}
use Rattle.std.proofs.lemmas.List.Elements.{Contains-append_cases}
use Rattle.protocol.specs.Messages.{Reply, Body, Message}
use Rattle.wire_forms.specs.declared.Body.TheVariants.{Ask as Asks, Answer as Answers}
use Rattle.protocol.specs.Setting.{Setting}
use Rattle.protocol.specs.Operations.{is_counted, Task, Decision, begun, counted, decide, answered}
use Rattle.protocol.specs.Operations.Decision.{GoesOn, Ends}
use Rattle.protocol.specs.World.{World, Record, Event, Allowed, happens, moved, decided, advanced, heard, heard_by, only_place, open_record, closed_record, with_record, under_way, last_op, greatest_given}
use Rattle.protocol.specs.World.Event.{Start, Resend, Give, Hear, CrashNode, CrashClient, Lie, Prune, Back}
use Rattle.protocol.proofs.lemmas.Replacing.{with_cases}
use Rattle.protocol.proofs.Growing.{given_records, resent_records, pruned_records}
use Rattle.protocol.proofs.Invariant.{IsSafe}
use Rattle.protocol.proofs.Origins.{HasOrigins}
use Rattle.lists.proofs.lemmas.Members.{Contains-one}

-- records that start or end at one place are one
pub record IsApart (rs : List Record) : Type 0 where
  pub starts : (x y : Record) → Contains rs x → Contains rs y → x.start ≡ y.start → x ≡ y
  pub ends : (x y : Record) (end : ℕ) → Contains rs x → Contains rs y → x.end ≡ Some end → y.end ≡ Some end → x ≡ y

-- none starts or ends at this place or later
pub record IsBefore (rs : List Record) (place : ℕ) : Type 0 where
  pub starts : (x : Record) → Contains rs x → x.start < place
  pub ends : (x : Record) (end : ℕ) → Contains rs x → x.end ≡ Some end → end < place

pub before_place : (s : Setting) (w : World) → IsSafe s w → (place : ℕ) → w.place < place → IsBefore w.records place
before_place s w safe place l = record {
  starts = λ x h. omega (arith, (safe.records x h).start, l);
  ends = λ x end h e. omega (arith, (safe.records x h).ended end e, l);
}

module _ (rs : List Record) (apart : IsApart rs) (place : ℕ) (early : IsBefore rs place) where
  -- a record that starts now is added
  pub pushed_apart : (r : Record) → r.start ≡ place → r.end ≡ None → IsApart (rs ++ r ∷ [])
  pushed_apart r s e = record {
    starts = λ x y h k f. elim (Contains-append_cases rs (r ∷ []) x h) [
      | inl a ↦ elim (Contains-append_cases rs (r ∷ []) y k)
          [ inl b ↦ apart.starts x y a b f | inr b ↦ absurd (let l = early.starts x a in let g : y.start ≡ r.start = ap (λ (z : Record). z.start) (Contains-one y r b) in omega arith) ]
      | inr a ↦ elim (Contains-append_cases rs (r ∷ []) y k)
          [ inl b ↦ absurd (let l = early.starts y b in let g : x.start ≡ r.start = ap (λ (z : Record). z.start) (Contains-one x r a) in omega arith) | inr b ↦ Contains-one x r a ∙ sym (Contains-one y r b) ]
    ];
    ends = λ x y end h k f g. elim (Contains-append_cases rs (r ∷ []) x h) [
      | inl a ↦ elim (Contains-append_cases rs (r ∷ []) y k)
          [ inl b ↦ apart.ends x y end a b f g | inr b ↦ absurd (let q : y.end ≡ r.end = ap (λ (z : Record). z.end) (Contains-one y r b) in cc) ]
      | inr a ↦ absurd (let q : x.end ≡ r.end = ap (λ (z : Record). z.end) (Contains-one x r a) in cc)
    ];
  }

  -- a record of an operation under way is replaced by one that ends now, if at all
  pub replaced_apart : (old r : Record) → Contains rs old → old.client ≡ r.client → old.start ≡ r.start → ((end : ℕ) → r.end ≡ Some end → end ≡ place) → IsApart (with_record rs r)
  replaced_apart old r there c s last = record {
    starts = λ x y h k f. elim (with_cases rs r x h) [
      | inl a ↦ elim (with_cases rs r y k) [
        | inl b ↦ a ∙ sym b
        | inr b ↦ absurd (let q = apart.starts old y there b.0 (s ∙ sym (ap (λ (z : Record). z.start) a) ∙ f) in b.1 (sym (ap (λ (z : Record). z.client) q) ∙ c) (sym (ap (λ (z : Record). z.start) q) ∙ s))
      ]
      | inr a ↦ elim (with_cases rs r y k) [
        | inl b ↦ absurd (let q = apart.starts old x there a.0 (s ∙ sym (ap (λ (z : Record). z.start) b) ∙ sym f) in a.1 (sym (ap (λ (z : Record). z.client) q) ∙ c) (sym (ap (λ (z : Record). z.start) q) ∙ s))
        | inr b ↦ apart.starts x y a.0 b.0 f
      ]
    ];
    ends = λ x y end h k f g. elim (with_cases rs r x h) [
      | inl a ↦ elim (with_cases rs r y k)
          [ inl b ↦ a ∙ sym b | inr b ↦ absurd (let l = early.ends y end b.0 g in let m = last end (sym (ap (λ (z : Record). z.end) a) ∙ f) in omega arith) ]
      | inr a ↦ elim (with_cases rs r y k)
          [ inl b ↦ absurd (let l = early.ends x end a.0 f in let m = last end (sym (ap (λ (z : Record). z.end) b) ∙ g) in omega arith) | inr b ↦ apart.ends x y end a.0 b.0 f g ]
    ];
  }

module _ (s : Setting) (w : World) (safe : IsSafe s w) (origins : HasOrigins s w) (apart : IsApart w.records) (place : ℕ) (early : IsBefore w.records place) where
  abbrev Fine : World → Type 0
  Fine v = IsApart v.records

  module _ (c : ℕ) (task : Task) (busy : under_way w c ≡ Some task) where
    goes : (z : Task) → z.start ≡ task.start → IsApart (with_record w.records (open_record c z))
    goes z st = replaced_apart w.records apart place early (open_record c task) (open_record c z) (origins.tasks c task busy).1 refl (sym st) (λ end e. absurd (cc e))

    decided_apart : (z : Task) → z.start ≡ task.start → (d : Decision) → Fine (decided s w place c z d)
    decided_apart z st (GoesOn stage) = goes (Rattle.protocol.specs.Operations.goes_on z stage) st
    decided_apart z st (Ends outcome) =
        replaced_apart w.records apart place early (open_record c task) (closed_record c z place outcome) (origins.tasks c task busy).1 refl (sym st) (λ end e. (let q : Some place ≡ Some end = e in cc))

    advanced_apart : (z : Task) → z.start ≡ task.start → Fine (advanced s w place c z)
    advanced_apart z st = at (ltb (answered s z.answers) (s.n - s.t))
      where
        at : (b : Bool) → Fine (cond b (moved s w place c (Some z) [] (open_record c z)) (decided s w place c z (decide s c z z.stage)))
        at true = goes z st
        at false = decided_apart z st (decide s c z z.stage)

    counted_apart : (m : Message) (reply : Reply) (b : Bool) → Fine (cond b (advanced s w place c (counted task m.node reply)) (only_place s w place))
    counted_apart m reply true = advanced_apart (counted task m.node reply) refl
    counted_apart m reply false = apart

  heard_apart : (c : ℕ) (m : Message) (o : Option Task) → w.client_crashed c ≡ false → w.task c ≡ o → (reply : Reply) → Fine (heard_by s w place c o m reply)
  heard_apart c m None up e reply = apart
  heard_apart c m (Some task) up e reply = counted_apart c task (busy_as up e) m reply (is_counted s task m.node m.tag reply)
    where
      busy_as : w.client_crashed c ≡ false → w.task c ≡ Some task → under_way w c ≡ Some task
      busy_as e f = rw (e, f) refl

  hear_apart : (c : ℕ) (m : Message) → w.client_crashed c ≡ false → (body : Body) → Fine (heard s w place c m body)
  hear_apart c m up (Asks ask) = apart
  hear_apart c m up (Answers reply) = heard_apart c m (w.task c) up refl reply

  pub happens_apart : (e : Event) → Allowed s w place e → Fine (happens s w place e)
  happens_apart (Start c block work) h = pushed_apart w.records apart place early (open_record c (begun (last_op w c + 1) block work place)) refl refl
  happens_apart (Resend c) h = rw (resent_records s w place c (w.task c)) apart
  happens_apart (Give i m) h = rw (given_records s w place i m m.body) apart
  happens_apart (Hear c m) h = hear_apart c m h.up m.body
  happens_apart (CrashNode i) h = apart
  happens_apart (CrashClient c) h = apart
  happens_apart (Lie m) h = apart
  happens_apart (Prune i block) h = rw (pruned_records s w place i block (greatest_given block w.records)) apart
  happens_apart (Back c) h = apart
