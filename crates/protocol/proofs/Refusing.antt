-- A line is refused exactly where it can't be played.
use Rattle.std.proofs.Common.{◌≡◌, ℕ, ◌-◌, ◌^◌, ◌<◌, ◌≤◌, Bool, true, false, not, ◌&&◌, List, [], ◌∷◌, length, Option, refl, inl, inr, arith, eqb, ltb, leb}
use Rattle.std.specs.Prelude.{◌≢◌, find, slice_get}
use Rattle.std.specs.declared.option.Option.TheVariants.{None, Some}
use Rattle.std.specs.List.{AllByRecursion}
use Rattle.std.proofs.lemmas.Bool.Decides.{nat_tests}
use Rattle.std.proofs.lemmas.Option.{slice_get_cases}
use Rattle.protocol.specs.Count.{count}
use Rattle.stamp_order.specs.declared.Stamp.{Stamp}
use Rattle.protocol.specs.Messages.{Request, Reply, Body, Message}
use Rattle.wire_forms.specs.declared.Request.TheVariants.{Time, Read as AskRead, Write as AskWrite}
use Rattle.wire_forms.specs.declared.rule.Rule.TheVariants.{Silent, Old, Top, Bad}
use Rattle.wire_forms.specs.declared.Body.TheVariants.{Ask as Asks, Answer as Answers}
use Rattle.protocol.specs.Setting.{Setting}
use Rattle.protocol.specs.Operations.{Task}
use Rattle.protocol.specs.World.{World, AllAllowed, IsClient, IsQuiet, IsAskTo, IsAnswerTo, IsOfLiar, under_way, greatest_given}
use Rattle.protocol.specs.Lines.{Line, sender, is_ask_to, is_answer_to, misgiven, misheard, does_something, is_at, is_missing, all_faults, called, falsely_told, false_reply, answer_with, told, FitsLine, given_at, heard_at, is_actor, is_liar, is_idle, is_busy_at, meets, fault, IsPlayable, Rule}
use Rattle.run_words.specs.declared.line.Line.TheVariants.{Write, Read, Resend, Call, Give, Hear, Lost, CrashNode, CrashClient, Lie, Tell, Poke, False, Sound, Mix, Prune, Back, Restart}
use Rattle.protocol.specs.Lines.Actor.{Node, Client}
use Rattle.protocol.proofs.lemmas.Counting.{some_passes}
use Rattle.protocol.proofs.lemmas.Tests.{or_false}
use Rattle.std.proofs.lemmas.Bool.{cases_Bool}

all_none : {A : Type 0} (p : A → Bool) (xs : List A) → AllByRecursion (λ x. p x ≡ false) xs → find p xs ≡ None
all_none p [] h = refl
all_none p (x ∷ xs) h = rw (h.0) (all_none p xs h.1)

module _ (s : Setting) (w : World) where
  client_ok : (c : ℕ) → IsClient s c → not (is_actor s w (Client c)) ≡ false
  client_ok c h = let x : leb 1 c ≡ true = at0 h.0 in let y : leb c 1000 ≡ true = at1 h.1 in rw (x, y) refl
    where
      at0 : 1 ≤ c → leb 1 c ≡ true
      at0 h = grind (arith, nat_tests)

      at1 : c ≤ 1000 → leb c 1000 ≡ true
      at1 h = grind (arith, nat_tests)

  node_ok : (i : ℕ) → i < s.n → not (is_actor s w (Node i)) ≡ false
  node_ok i h = let x : ltb i s.n ≡ true = grind (arith, nat_tests) in rw x refl

  ask_ok : (i : ℕ) (m : Message) → IsAskTo s i m → not (is_ask_to i m.body m) ≡ false
  ask_ok i m h = let x : eqb m.node i ≡ true = at h.0 in rw (h.2, x) refl
    where
      at : m.node ≡ i → eqb m.node i ≡ true
      at e = grind (arith, nat_tests)

  answer_ok : (c : ℕ) (m : Message) → IsAnswerTo s c m → not (is_answer_to c m.body m) ≡ false
  answer_ok c m h = let x : eqb m.client c ≡ true = at h.0 in rw (h.2, x) refl
    where
      at : m.client ≡ c → eqb m.client c ≡ true
      at e = grind (arith, nat_tests)

  liar_ok : (m : Message) (body : Body) → IsOfLiar s body m → not (is_liar s w (sender body m)) ≡ false
  liar_ok m (Asks ask) h = rw h refl
  liar_ok m (Answers reply) h = rw h refl

  few_ok : (x : ℕ) → x < 2 ^ 32 - 1 → leb (2 ^ 32 - 1) x ≡ false
  few_ok x h = grind (arith, nat_tests)

  there_ok : (k : ℕ) → k < length w.pool → leb (length w.pool) k ≡ false
  there_ok k h = grind (arith, nat_tests)

  idle_ok : (c : ℕ) (task : Task) → w.task c ≡ Some task → is_idle s w c ≡ false
  idle_ok c task e = rw e (at (s.lying_client c))
    where
      at : (b : Bool) → not b && false ≡ false
      at true = refl
      at false = refl

  free_ok : (c : ℕ) → w.task c ≡ None → does_something (w.task c) ≡ false
  free_ok c e = rw e refl

  at_is : (block : ℕ) (o : Option Task) → is_at block o ≡ true → (task : Task) × (o ≡ Some task) × (task.block ≡ block)
  at_is block None h = absurd (cc)
  at_is block (Some task) h = (task, refl, grind (arith, nat_tests))

  zero_below : (x : ℕ) → (0 < x → ⊥) → ltb 0 x ≡ false
  zero_below x h = elim (cases_Bool (ltb 0 x)) [ inl e ↦ absurd (h (grind (arith, nat_tests))) | inr e ↦ e ]

  quiet_ok : (block : ℕ) → IsQuiet s w block → is_busy_at s w block ≡ false
  quiet_ok block quiet =
      zero_below (count 1001 (λ c. is_at block (under_way w c)))
      (λ h. let x = some_passes 1001 (λ c. is_at block (under_way w c)) h in let t = at_is block (under_way w x.0) x.2 in quiet x.0 t.0 t.1 t.2)

  read_ok : (block : ℕ) (stamp : Stamp) → greatest_given block w.records ≡ Some stamp → is_missing (greatest_given block w.records) ≡ false
  read_ok block stamp e = rw e refl

  -- the message of a number that there is
  message_at : (k : ℕ) → k < length w.pool → (m : Message) × (slice_get w.pool k ≡ Some m)
  message_at k l = elim (slice_get_cases w.pool k).1 [ inl h ↦ (h.0, h.2) | inr h ↦ absurd (let x = h.0 in omega (arith, l, x)) ]

  fine_given : (i k : ℕ) → k < length w.pool → (m : Message) → slice_get w.pool k ≡ Some m → (place : ℕ) → AllAllowed s w place (given_at s w i (slice_get w.pool k)) → fault s w (Give i k) ≡ None
  fine_given i k l m e place h =
      let a : AllAllowed s w place (given_at s w i (Some m)) = rw e at h in
      let x = a.0 in
      let r : misgiven i (slice_get w.pool k) ≡ false = rw e (ask_ok i m x.asks) in
      all_none (meets s w (Give i k)) all_faults
      (or_false _ _ (node_ok i x.node) refl, (there_ok k l, (r, (refl, (or_false _ _ x.up refl, (refl, (refl, (or_false _ _ x.honest refl, (refl, (refl, (refl, (refl, tt))))))))))))

  fine_heard : (c k : ℕ) → k < length w.pool → (m : Message) → slice_get w.pool k ≡ Some m → (place : ℕ) → AllAllowed s w place (heard_at s w c (slice_get w.pool k)) → fault s w (Hear c k) ≡ None
  fine_heard c k l m e place h =
      let a : AllAllowed s w place (heard_at s w c (Some m)) = rw e at h in
      let x = a.0 in
      let r : misheard c (slice_get w.pool k) ≡ false = rw e (answer_ok c m x.answers) in
      all_none (meets s w (Hear c k)) all_faults
      (or_false _ _ (client_ok c x.client) refl, (there_ok k l, (r, (refl, (or_false _ _ x.up refl, (refl, (refl, (or_false _ _ x.correct refl, (refl, (refl, (refl, (refl, tt))))))))))))

  fine_call : (c i : ℕ) (task : Task) → w.task c ≡ Some task → (place : ℕ) → AllAllowed s w place (called s w c i (w.task c)) → fault s w (Call c i) ≡ None
  fine_call c i task e place h =
      let a : AllAllowed s w place (called s w c i (Some task)) = rw e at h in
      let g = a.0 in
      let x = a.1.0 in
      all_none (meets s w (Call c i)) all_faults
      (or_false _ _ (client_ok c x.client) (or_false _ _ (node_ok i g.node) refl), (refl, (refl, (refl, (or_false _ _ x.up (or_false _ _ g.up refl), (refl, (idle_ok c task e, (or_false _ _ x.correct (or_false _ _ g.honest refl), (refl, (refl, (refl, (refl, tt))))))))))))

  -- who tells and who hears a false answer, where there is one
  told_by : (c i : ℕ) (task : Task) (reply : Option Reply) → reply ≢ None → (place : ℕ) → AllAllowed s w place (told s w c (answer_with s c i task reply))
      → IsClient s c × (i < s.n) × (s.lying_node i ≡ true) × (s.lying_client c ≡ false) × (w.client_crashed c ≡ false)
  told_by c i task None some place h = absurd (some refl)
  told_by c i task (Some reply) some place h = let g = h.0 in let x = h.1.0 in (x.client, g.1, g.3, x.correct, x.up)

  speaks : (rule : Rule) (i : ℕ) (request : Request) → rule ≢ Silent → false_reply s rule i request ≢ None
  speaks Silent i request h = absurd (h refl)
  speaks Old i Time h = λ e. absurd (cc)
  speaks Old i (AskRead bound) h = λ e. absurd (cc)
  speaks Old i (AskWrite v) h = λ e. absurd (cc)
  speaks Top i Time h = λ e. absurd (cc)
  speaks Top i (AskRead bound) h = λ e. absurd (cc)
  speaks Top i (AskWrite v) h = λ e. absurd (cc)
  speaks Bad i Time h = λ e. absurd (cc)
  speaks Bad i (AskRead bound) h = λ e. absurd (cc)
  speaks Bad i (AskWrite v) h = λ e. absurd (cc)

  fine_false : (c i : ℕ) (rule : Rule) → rule ≢ Silent → (task : Task) → w.task c ≡ Some task → (place : ℕ) → AllAllowed s w place (falsely_told s w rule c i (w.task c)) → fault s w (False c i rule) ≡ None
  fine_false c i rule loud task e place h =
      let a : AllAllowed s w place (falsely_told s w rule c i (Some task)) = rw e at h in
      let request = (Rattle.protocol.specs.Operations.ask_of s task i).request in
      let x = told_by c i task (false_reply s rule i request) (speaks rule i request loud) place a in
      let liar : not (s.lying_node i) ≡ false = rw (x.2) refl in
      all_none (meets s w (False c i rule)) all_faults
      (or_false _ _ (client_ok c x.0) (or_false _ _ (node_ok i x.1) (or_false _ _ (client_ok c x.0) refl)), (refl, (refl, (refl, (or_false _ _ x.4 refl, (or_false _ _ liar refl, (idle_ok c task e, (or_false _ _ x.3 refl, (refl, (refl, (refl, (refl, tt))))))))))))

  liar_client : (c : ℕ) → s.lying_client c ≡ true → not (s.lying_client c) ≡ false
  liar_client c h = rw h refl

  pub playable : (place : ℕ) (line : Line) → FitsLine s line → IsPlayable s w place line → fault s w line ≡ None
  playable place (Write c block value) fits h =
      let x = h.1.0 in
      all_none (meets s w (Write c block value)) all_faults
      (or_false _ _ (client_ok c x.client) refl, (refl, (refl, (free_ok c x.idle, (or_false _ _ x.up refl, (refl, (refl, (or_false _ _ x.correct refl, (refl, (refl, (few_ok (w.started c) x.fresh, (refl, tt))))))))))))
  playable place (Read c block) fits h =
      let x = h.1.0 in
      all_none (meets s w (Read c block)) all_faults
      (or_false _ _ (client_ok c x.client) refl, (refl, (refl, (free_ok c x.idle, (or_false _ _ x.up refl, (refl, (refl, (or_false _ _ x.correct refl, (refl, (refl, (few_ok (w.started c) x.fresh, (refl, tt))))))))))))
  playable place (Resend c) fits h =
      let x = h.1.0 in
      all_none (meets s w (Resend c)) all_faults
      (or_false _ _ (client_ok c x.client) refl, (refl, (refl, (refl, (or_false _ _ x.up refl, (refl, (idle_ok c x.task x.busy, (or_false _ _ x.correct refl, (refl, (refl, (refl, (refl, tt))))))))))))
  playable place (Call c i) fits h = fine_call c i h.0.0 h.0.1 place h.1
  playable place (Give i k) fits h = let m = message_at k h.0 in fine_given i k h.0 m.0 m.1 place h.1
  playable place (Hear c k) fits h = let m = message_at k h.0 in fine_heard c k h.0 m.0 m.1 place h.1
  playable place (Lost c i) fits h = all_none (meets s w (Lost c i)) all_faults (refl, (refl, (refl, (refl, (refl, (refl, (refl, (refl, (refl, (refl, (refl, (refl, tt))))))))))))
  playable place (CrashNode i) fits h =
      let x = h.1.0 in
      all_none (meets s w (CrashNode i)) all_faults
      (or_false _ _ (node_ok i x.1) refl, (refl, (refl, (refl, (or_false _ _ x.3 refl, (refl, (refl, (or_false _ _ x.2 refl, (refl, (refl, (refl, (refl, tt))))))))))))
  playable place (CrashClient c) fits h =
      let x = h.1.0 in
      all_none (meets s w (CrashClient c)) all_faults
      (or_false _ _ (client_ok c x.1) refl, (refl, (refl, (refl, (or_false _ _ x.3 refl, (refl, (refl, (or_false _ _ x.2 refl, (refl, (refl, (refl, (refl, tt))))))))))))
  playable place (Lie m) fits h =
      let x = h.1.0 in
      all_none (meets s w (Lie m)) all_faults
      (or_false _ _ (node_ok m.node x.1) (or_false _ _ (client_ok m.client x.2) refl), (refl, (refl, (refl, (refl, (or_false _ _ (liar_ok m m.body x.3) refl, (refl, (refl, (refl, (refl, (refl, (refl, tt))))))))))))
  playable place (Tell m) fits h =
      let x = h.1.0 in
      let y = h.1.1.0 in
      all_none (meets s w (Tell m)) all_faults
      (or_false _ _ (client_ok m.client y.client) (or_false _ _ (node_ok m.node x.1) (or_false _ _ (client_ok m.client x.2) refl)), (refl, (answer_ok m.client m y.answers, (refl, (or_false _ _ y.up refl, (or_false _ _ (liar_ok m m.body x.3) refl, (refl, (or_false _ _ y.correct refl, (refl, (refl, (refl, (refl, tt))))))))))))
  playable place (Poke m) fits h =
      let x = h.1.0 in
      let y = h.1.1.0 in
      all_none (meets s w (Poke m)) all_faults
      (or_false _ _ (node_ok m.node y.node) (or_false _ _ (node_ok m.node x.1) (or_false _ _ (client_ok m.client x.2) refl)), (refl, (ask_ok m.node m y.asks, (refl, (or_false _ _ y.up refl, (or_false _ _ (liar_ok m m.body x.3) refl, (refl, (or_false _ _ y.honest refl, (refl, (refl, (refl, (refl, tt))))))))))))
  playable place (False c i rule) fits h = fine_false c i rule fits h.0.0 h.0.1 place h.1
  playable place (Sound c i block time value) fits h =
      let x = h.1.0 in
      let y = h.1.1.0 in
      all_none (meets s w (Sound c i block time value)) all_faults
      (or_false _ _ (node_ok i y.node) (or_false _ _ (node_ok i x.1) (or_false _ _ (client_ok c x.2) refl)), (refl, (refl, (refl, (or_false _ _ y.up refl, (or_false _ _ (liar_client c x.3) refl, (refl, (or_false _ _ y.honest refl, (refl, (refl, (refl, (refl, tt))))))))))))
  playable place (Mix c i block time value other) fits h =
      let x = h.1.0 in
      let y = h.1.1.0 in
      all_none (meets s w (Mix c i block time value other)) all_faults
      (or_false _ _ (node_ok i y.node) (or_false _ _ (node_ok i x.1) (or_false _ _ (client_ok c x.2) refl)), (refl, (refl, (refl, (or_false _ _ y.up refl, (or_false _ _ (liar_client c x.3) refl, (refl, (or_false _ _ y.honest refl, (refl, (refl, (refl, (refl, tt))))))))))))
  playable place (Prune i block) fits h =
      let x = h.1.0 in
      all_none (meets s w (Prune i block)) all_faults
      (or_false _ _ (node_ok i x.node) refl, (refl, (refl, (refl, (or_false _ _ x.up refl, (refl, (refl, (or_false _ _ x.honest refl, (quiet_ok block x.quiet, (read_ok block x.stamp x.given, (refl, (refl, tt))))))))))))
  playable place (Back c) fits h =
      let x = h.1.0 in
      let up : not (w.client_crashed c) ≡ false = rw (x.3) refl in
      all_none (meets s w (Back c)) all_faults
      (or_false _ _ (client_ok c x.1) refl, (refl, (refl, (refl, (refl, (refl, (refl, (or_false _ _ x.2 refl, (refl, (refl, (few_ok (w.life c) x.4, (up, tt))))))))))))
  playable place (Restart i) fits h =
      all_none (meets s w (Restart i)) all_faults
      (or_false _ _ (node_ok i h.0.0) refl, (refl, (refl, (refl, (or_false _ _ h.0.2 refl, (refl, (refl, (or_false _ _ h.0.1 refl, (refl, (refl, (refl, (refl, tt))))))))))))
