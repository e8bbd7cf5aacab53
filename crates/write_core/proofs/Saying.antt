-- When a writer says that its phase goes on, and when that there is no time left.
use Rattle.std.proofs.Common.{◌≡◌, ◌↔◌, ℕ, ◌-◌, ◌^◌, Bool, true, false, cond, not, ◌&&◌, List, Option, refl, sym, ◌∙◌, ap, eqb}
use Rattle.std.specs.declared.option.Option.TheVariants.{None, Some}
use Rattle.std.specs.Prelude.{IfSome}
use Rattle.std.proofs.lemmas.Bool.{eq-eqb, eqb-true}
use Rattle.protocol.specs.Messages.{Reply, Tag}
use Rattle.protocol.specs.Setting.{Setting}
use Rattle.protocol.specs.Operations.{Work, Stage, decide, drawn_from, stored}
use Rattle.protocol.specs.Operations.Work.{Writes}
use Rattle.protocol.specs.Operations.Stage.{Times, Versions, Storing}
use Rattle.protocol.specs.Operations.Decision.{GoesOn, Ends}
use Rattle.protocol.specs.Seen.{SeenTask, SeenOperation, Hearing, task_at, answers_of, seen_counted, is_counted, by_decision}
use Rattle.protocol.specs.Seen.Hearing.{Ignored, Counted}
use Rattle.protocol.specs.Instance.{setting}
use Rattle.run_words.specs.declared.outcome.Outcome.TheVariants.{Spent as SpentIt}
use Rattle.operation_core.specs.Counting.{ends_in, hears_in}
use Rattle.write_core.specs.declared.writer.Writing.{Writing}
use Rattle.write_core.specs.declared.writer.Writing.TheVariants.{More, Wrote, Spent}
use Rattle.write_core.specs.Writers.{IsWritePhase, IsWrite, IsWriter, ended_as, said_of, FindsLastTime}

module _ (o : SeenOperation) (said : Writing) where
  more_by : (b f : Bool) (t : SeenTask) (h : Hearing) → (said_of o h ≡ More → ⊥) → said ≡ said_of o (cond b (cond f (Counted t) h) Ignored) → (said ≡ More) ↔ (b && not f ≡ false)
  more_by false f t h no_more e = (λ _. refl, λ _. e)
  more_by true true t h no_more e = (λ _. refl, λ _. e)
  more_by true false t h no_more e = (λ m. absurd (no_more (sym e ∙ m)), λ q. absurd (cc))

  spent_by : (b f : Bool) (t : SeenTask) (h : Hearing) (P : Type 0) → ((said_of o h ≡ Spent) ↔ P) → said ≡ said_of o (cond b (cond f (Counted t) h) Ignored) → (said ≡ Spent) ↔ ((b && not f ≡ true) × P)
  spent_by false f t h P when e = (λ m. absurd (let q = sym e ∙ m in cc), λ p. absurd (let q = p.0 in cc))
  spent_by true true t h P when e = (λ m. absurd (let q = sym e ∙ m in cc), λ p. absurd (let q = p.0 in cc))
  spent_by true false t h P when e = (λ m. (refl, when.0 (sym e ∙ m)), λ p. e ∙ when.1 p.1)

module _ (s : Setting) (o : SeenOperation) (client : ℕ) (u : SeenTask) (value : List ℕ) (writes : u.work ≡ Writes value) where
  -- how the phase ends
  abbrev ending : Stage → Hearing
  ending stage = by_decision s u (decide s client (task_at 0 u) stage)

  abbrev drawn : ℕ
  drawn = drawn_from s (λ i. answers_of u i)

  -- a value that is stored ends the write
  stored_as : (stamp : Rattle.protocol.specs.Messages.Stamp) (v : List ℕ) → said_of o (ending (Storing stamp v)) ≡ Wrote stamp
  stored_as stamp v = ap (λ (w : Work). ended_as (stored w u.rounds stamp v)) writes

  time_not_more : (b : Bool) (stage : Stage) → said_of o (by_decision s u (cond b (Ends SpentIt) (GoesOn stage))) ≡ More → ⊥
  time_not_more true stage h = cc
  time_not_more false stage h = cc

  -- the end of a phase is never that it goes on
  not_more : (stage : Stage) → IsWritePhase u.phase stage → said_of o (ending stage) ≡ More → ⊥
  not_more Times p h = time_not_more (eqb drawn (2 ^ 64 - 1)) _ h
  not_more (Versions bound) p h = p
  not_more (Storing stamp v) p h = let e = sym (stored_as stamp v) ∙ h in cc

  time_spent : (b : Bool) (stage : Stage) → eqb drawn (2 ^ 64 - 1) ≡ b → (said_of o (by_decision s u (cond b (Ends SpentIt) (GoesOn stage))) ≡ Spent) ↔ (drawn ≡ 2 ^ 64 - 1)
  time_spent true stage e = (λ _. eqb-true _ _ e, λ _. refl)
  time_spent false stage e = (λ h. absurd (cc), λ p. absurd (let q = eq-eqb _ _ p in cc))

  -- it is that there is no time left where the last time was drawn
  spent_where : (stage : Stage) → IsWritePhase u.phase stage → (said_of o (ending stage) ≡ Spent) ↔ ((stage ≡ Times) × (drawn ≡ 2 ^ 64 - 1))
  spent_where Times p = let t = time_spent (eqb drawn (2 ^ 64 - 1)) _ refl in (λ h. (refl, t.0 h), λ q. t.1 q.1)
  spent_where (Versions bound) p = absurd p
  spent_where (Storing stamp v) p = (λ h. absurd (let e = sym (stored_as stamp v) ∙ h in cc), λ q. absurd (let f = q.0 in cc))

module _ (o : SeenOperation) (node : ℕ) (tag : Tag) (reply : Reply) (said : Writing) where
  abbrev Says : Option SeenTask → Type 0
  Says task = said ≡ said_of o (hears_in (record { config = o.config; client = o.client; task = task }) node tag reply)

  more_at : (task : Option SeenTask) → IfSome task IsWrite → Says task → (said ≡ More) ↔ (ends_in (record { config = o.config; client = o.client; task = task }) node tag reply ≡ false)
  more_at None w e = (λ _. refl, λ _. e)
  more_at (Some t) w e = more_by o said (is_counted (setting o.config) t node tag reply) _ (seen_counted t node reply) _ (not_more (setting o.config) o o.client (seen_counted t node reply) w.value w.writes t.stage w.phase) e

  spent_at : (task : Option SeenTask) → IfSome task IsWrite → Says task → (said ≡ Spent) ↔ FindsLastTime o.config task node tag reply
  spent_at None w e = (λ m. absurd (let q = sym e ∙ m in cc), λ p. absurd p)
  spent_at (Some t) w e =
      let r = spent_by o said (is_counted (setting o.config) t node tag reply) _ (seen_counted t node reply) _ _ (spent_where (setting o.config) o o.client (seen_counted t node reply) w.value w.writes t.stage w.phase) e in
      (λ m. let p = r.0 m in (p.1.0, p.0, p.1.1), λ p. r.1 (p.1, (p.0, p.2)))

  module _ (writer : IsWriter o) (e : said ≡ said_of o (hears_in o node tag reply)) where
    -- it says that the phase goes on exactly where the answer doesn't end it
    pub more_where : (said ≡ More) ↔ (ends_in o node tag reply ≡ false)
    more_where = more_at o.task writer e

    -- and that there is no time left exactly where the last one was drawn
    pub spent_when : (said ≡ Spent) ↔ FindsLastTime o.config o.task node tag reply
    spent_when = spent_at o.task writer e
