-- All that a correct client's operation asks is of one block.
use Rattle.std.proofs.Common.{◌≡◌, ℕ, ◌+◌, ◌≤◌, false, List, [], ◌∷◌, ◌++◌, Option, refl, sym, ◌∙◌, ap, inl, inr, arith}
use Rattle.std.specs.declared.option.Option.TheVariants.{None, Some}
use Rattle.std.specs.List.{Contains}
use Rattle.std.proofs.lemmas.List.Elements.{Contains-append_cases}
use Rattle.stamp_order.specs.declared.Stamp.{Stamp}
use Rattle.wire_forms.specs.declared.Body.TheVariants.{Ask as Asks, Answer as Answers}
use Rattle.protocol.specs.Count.{update}
use Rattle.protocol.specs.Messages.{Ask, Body, Message}
use Rattle.protocol.specs.Setting.{Setting, IsValid}
use Rattle.protocol.specs.Nodes.{reply}
use Rattle.protocol.specs.Operations.{Task, Work, begun, outstanding, mail, goes_on}
use Rattle.protocol.specs.World.{World, Event, happens, Allowed, IsAnswerTo, IsOfLiar, given, heard, pruned_at, under_way, last_op, greatest_given, start_world}
use Rattle.protocol.specs.World.Event.{Start, Resend, Give, Hear, CrashNode, CrashClient, Lie, Prune, Back}
use Rattle.protocol.proofs.lemmas.Counting.{update-cases}
use Rattle.protocol.proofs.Mails.{in_mail, mail_asks}
use Rattle.protocol.proofs.Invariant.{IsSafe}
use Rattle.protocol.proofs.lemmas.Sending.{is_under_way}
use Rattle.protocol.proofs.Heard.{filled, heard_case}
use Rattle.lists.proofs.lemmas.Members.{Contains-none, Contains-one}

module _ (s : Setting) where
  -- each ask of a correct client in the pool is of the block of its client and operation
  abbrev pub AreOf : (ℕ → ℕ → ℕ) → List Message → Type 0
  AreOf block pool = (m : Message) (ask : Ask) → Contains pool m → m.body ≡ Asks ask → s.lying_client m.client ≡ false → ask.block ≡ block m.client m.tag.op

  -- each client's operation has one block
  abbrev pub HasBlocks : List Message → Type 0
  HasBlocks pool = (block : ℕ → ℕ → ℕ) × AreOf block pool

  module _ (good : IsValid s) (w : World) (safe : IsSafe s w) (block : ℕ → ℕ → ℕ) (asked : AreOf block w.pool) where
    pub working_at : (c : ℕ) (task : Task) → under_way w c ≡ Some task → task.block ≡ block c task.op
    working_at c task busy =
        let t = safe.tasks c task busy in
        asked (outstanding s c task 0) (record { block = task.block; request = Rattle.protocol.specs.Operations.request_of s task.stage 0 }) (t.mailed 0 (omega (arith, good.quorum_low, good.quorum_high))) refl t.correct

    grown : (pool more : List Message) → pool ≡ w.pool ++ more → ((m : Message) (ask : Ask) → Contains more m → m.body ≡ Asks ask → s.lying_client m.client ≡ false → ask.block ≡ block m.client m.tag.op) → HasBlocks pool
    grown pool more e new = (block, λ m ask h body correct. elim (Contains-append_cases w.pool more m (rw e at h)) [ inl k ↦ asked m ask k body correct | inr k ↦ new m ask k body correct ])

    same : HasBlocks w.pool
    same = (block, asked)

    -- what an operation under way, or the same in its next phase, asks
    mailed : (c : ℕ) (task : Task) → under_way w c ≡ Some task → (z : Task) → z.op ≡ task.op → z.block ≡ task.block → HasBlocks (w.pool ++ mail s c z)
    mailed c task busy z op of = grown (w.pool ++ mail s c z) (mail s c z) refl (λ m ask h body correct.
        let r = in_mail s c z m h in
        let client : m.client ≡ c = ap (λ (x : Message). x.client) r.2 in
        let tag : m.tag.op ≡ z.op = ap (λ (x : Message). x.tag.op) r.2 in
        (mail_asks s c z m r.0 ask r.2 body).0 ∙ of ∙ working_at c task busy ∙ sym (ap (λ (d : ℕ). block d task.op) client) ∙ sym (ap (block m.client) (tag ∙ op)))

    not_lie : (m : Message) (body : Body) → m.body ≡ body → IsOfLiar s body m → (x : Message) (ask : Ask) → Contains (m ∷ []) x → x.body ≡ Asks ask → s.lying_client x.client ≡ false → ask.block ≡ block x.client x.tag.op
    not_lie m (Asks other) e liar x ask h body correct = absurd (let q = Contains-one x m h in let b : x.client ≡ m.client = ap (λ (y : Message). y.client) q in cc)
    not_lie m (Answers told) e liar x ask h body correct = absurd (let q = Contains-one x m h in let b : x.body ≡ m.body = ap (λ (y : Message). y.body) q in cc)

    -- a new operation has a number that no message has yet
    module _ (place c of : ℕ) (work : Work) where
      new : Task
      new = begun (last_op w c + 1) of work place

      with_new : ℕ → ℕ → ℕ
      with_new = update block c (update (block c) (last_op w c + 1) of)

      with_old : (d op : ℕ) → (d ≡ c → op ≡ last_op w c + 1 → ⊥) → update block c (update (block c) (last_op w c + 1) of) d op ≡ block d op
      with_old d op n = elim (update-cases block c (update (block c) (last_op w c + 1) of) d) [
        | inl e ↦ (elim (update-cases (block c) (last_op w c + 1) of op) [
          | inl f ↦ absurd (n e.0 f.0)
          | inr f ↦ ap (λ (g : ℕ → ℕ). g op) e.1 ∙ f.1 ∙ ap (λ (x : ℕ). block x op) (sym e.0)
        ])
        | inr e ↦ ap (λ (g : ℕ → ℕ). g op) e.1
      ]

      with_own : update block c (update (block c) (last_op w c + 1) of) c (last_op w c + 1) ≡ of
      with_own = elim (update-cases block c (update (block c) (last_op w c + 1) of) c) [
        | inl e ↦ (elim (update-cases (block c) (last_op w c + 1) of (last_op w c + 1)) [ inl f ↦ ap (λ (g : ℕ → ℕ). g (last_op w c + 1)) e.1 ∙ f.1 | inr f ↦ absurd (f.0 refl) ])
        | inr e ↦ absurd (e.0 refl)
      ]

      started : HasBlocks (happens s w place (Start c of work)).pool
      started = (
        update block c (update (block c) (last_op w c + 1) of),
        λ m ask h body correct. elim (Contains-append_cases w.pool (mail s c (begun (last_op w c + 1) of work place)) m h) [
          | inl k ↦ asked m ask k body correct ∙ sym (with_old m.client m.tag.op (λ e f.
              let t : m.tag.op ≤ last_op w m.client = (safe.tagged m k (rw body correct) correct).begun in
              let u : m.tag.op ≤ last_op w c = rw e at t in omega (arith, f, u)))
          | inr k ↦
              (let z = begun (last_op w c + 1) of work place in
              let r = in_mail s c z m k in
              let client : m.client ≡ c = ap (λ (x : Message). x.client) r.2 in
              let tag : m.tag.op ≡ last_op w c + 1 = ap (λ (x : Message). x.tag.op) r.2 in
              (mail_asks s c z m r.0 ask r.2 body).0 ∙ sym (rw (client, tag) with_own))
        ],
      )

    gives : (place i : ℕ) (m : Message) (body : Body) → HasBlocks (given s w place i m body).pool
    gives place i m (Asks ask) = grown _ _ refl (λ x a h body correct. absurd
        (let q = Contains-one x _ h in let b : x.body ≡ Answers (reply s i (w.versions i ask.block) ask) = ap (λ (y : Message). y.body) q in cc))
    gives place i m (Answers told) = same

    module _ (place : ℕ) (later : w.place ≤ place) where
      resends : (c : ℕ) (task : Task) → w.client_crashed c ≡ false → w.task c ≡ Some task → HasBlocks (happens s w place (Resend c)).pool
      resends c task up busy = rw busy (mailed c task (is_under_way s w safe place later c task up busy) task refl refl)

      hears : (c : ℕ) (m : Message) → Contains w.pool m → w.client_crashed c ≡ false → IsAnswerTo s c m → HasBlocks (heard s w place c m m.body).pool
      hears c m there up h =
          heard_case s good w safe place later c (λ (v : World). HasBlocks v.pool)
          same
          (λ task answers busy sent. grown _ [] refl (λ x a k. absurd (Contains-none x k)))
          (λ task answers busy sent enough stage e. mailed c task busy (goes_on (filled task answers) stage) refl refl)
          (λ task answers busy sent enough outcome e. grown _ [] refl (λ x a k. absurd (Contains-none x k)))
          m there up h

      prunes : (i at : ℕ) (o : Option Stamp) → HasBlocks (pruned_at s w place i at o).pool
      prunes i at None = same
      prunes i at (Some stamp) = same

    happens_of : (place : ℕ) (e : Event) → Allowed s w place e → HasBlocks (happens s w place e).pool
    happens_of place (Start c of work) h = started place c of work
    happens_of place (Resend c) h = resends place h.later c h.task h.up h.busy
    happens_of place (Give i m) h = gives place i m m.body
    happens_of place (Hear c m) h = hears place h.later c m h.sent h.up h.answers
    happens_of place (CrashNode i) h = same
    happens_of place (CrashClient c) h = same
    happens_of place (Lie m) h = grown _ (m ∷ []) refl (not_lie m m.body refl h.3)
    happens_of place (Prune i at) h = prunes place h.later i at (greatest_given at w.records)
    happens_of place (Back c) h = same

  pub happens_blocks : IsValid s → (w : World) → IsSafe s w → HasBlocks w.pool → (place : ℕ) (e : Event) → Allowed s w place e → HasBlocks (happens s w place e).pool
  happens_blocks good w safe h place e a = happens_of good w safe h.0 h.1 place e a

  pub start_blocks : HasBlocks (start_world s).pool
  start_blocks = (λ c op. 0, λ m ask h. absurd (Contains-none m h))
