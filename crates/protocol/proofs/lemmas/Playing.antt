-- A line that isn't refused has events that are allowed one after the other.
use Rattle.std.proofs.Common.{◌≡◌, ◌⊎◌, ℕ, zero, suc, ◌-◌, ◌%◌, ◌^◌, ◌<◌, ◌≤◌, Bool, true, false, cond, not, ◌&&◌, List, [], ◌∷◌, ◌++◌, length, Option, refl, sym, ◌∙◌, ap, inl, inr, arith, eqb, ltb, leb}
use Rattle.std.specs.Prelude.{find, slice_get}
use Rattle.std.specs.declared.option.Option.TheVariants.{None, Some}
use Rattle.std.specs.List.{Contains, AllByRecursion}
use Rattle.std.proofs.lemmas.Bool.Decides.{nat_tests}
use Rattle.std.proofs.lemmas.List.Elements.{Contains-push}
use Rattle.protocol.specs.Count.{count}
use Rattle.stamp_order.specs.declared.Stamp.{Stamp}
use Rattle.protocol.specs.Messages.{IsBytes, AreDigests, Reply, Body, Message}
use Rattle.wire_forms.specs.declared.Body.TheVariants.{Ask as Asks, Answer as Answers}
use Rattle.protocol.specs.Setting.{Setting, IsValid, IsBlock}
use Rattle.protocol.proofs.lemmas.Forming.{IsFormedWhere, false_formed, sum_formed, all_collect}
use Rattle.run_words.specs.declared.line.StepFault.TheVariants.{NoSuchMessage, WrongReceiver, Busy, Crashed, Idle, NotQuiet, NoRead, Worn, NotCrashed}
use Rattle.protocol.specs.Operations.{Task}
use Rattle.protocol.specs.World.{World, AllAllowed, IsClient, IsQuiet, IsAskTo, IsAnswerTo, IsOfLiar, under_way, greatest_given}
use Rattle.protocol.specs.Lines.{Line, some_of, sender, roles, is_ask_to, is_answer_to, misgiven, misheard, does_something, is_at, is_missing, all_faults, called, falsely_told, given_at, heard_at, events, is_actor, is_liar, has_crashed, is_idle, is_busy_at, meets, fault, FitsLine, Names, Rule, false_reply, answer_with, told, mixed, mixed_sum}
use Rattle.run_words.specs.declared.line.Line.TheVariants.{Write, Read, Resend, Call, Give, Hear, Lost, CrashNode, CrashClient, Lie, Tell, Poke, False, Sound, Mix, Prune, Back, Restart}
use Rattle.protocol.specs.Lines.Actor.{Node, Client}
use Rattle.protocol.proofs.lemmas.Counting.{both_true}
use Rattle.protocol.proofs.lemmas.Tests.{neither_of_or, not_false, not_leb}
use Rattle.protocol.proofs.Invariant.{IsSafe}
use Rattle.protocol.proofs.lemmas.Sending.{is_under_way}
use Rattle.lists.proofs.lemmas.Members.{Contains-slice_get}
use Rattle.std.proofs.lemmas.Bool.{eq-eqb}

find_none : {A : Type 0} (p : A → Bool) (xs : List A) → find p xs ≡ None → AllByRecursion (λ x. p x ≡ false) xs
find_none p [] h = tt
find_none p (x ∷ xs) h = at (p x) refl h (find_none p xs)
  where
    at : (b : Bool) → p x ≡ b → cond b (Some x) (find p xs) ≡ None → (find p xs ≡ None → AllByRecursion (λ x. p x ≡ false) xs) → AllByRecursion (λ x. p x ≡ false) (x ∷ xs)
    at true e k rest = absurd (cc)
    at false e k rest = (e, rest k)

some_none : {A : Type 0} (test : A → Bool) (xs : List A) → some_of test xs ≡ false → AllByRecursion (λ x. test x ≡ false) xs
some_none test [] h = tt
some_none test (x ∷ xs) h = let k = neither_of_or (test x) (some_of test xs) h in (k.0, some_none test xs k.1)

count_none : (n : ℕ) (p : ℕ → Bool) (i : ℕ) → i < n → p i ≡ true → 0 < count n p
count_none zero p i l e = absurd (omega arith)
count_none (suc k) p i l e =
    let rest = λ (h : i < k). count_none k p i h e in
    let c : (i < k) ⊎ (i ≡ k) = grind arith in
    elim c [ inl h ↦ omega (arith, rest h) | inr h ↦ (let q : cond {A = ℕ} (p k) 1 0 ≡ 1 = (let f : p k ≡ true = rw h at e in rw f refl) in omega (arith, q)) ]

none_above : (x : ℕ) → ltb 0 x ≡ false → 0 < x → ⊥
none_above x h k = grind (arith, nat_tests)

-- what isn't met by a line
pub record NoFault (s : Setting) (w : World) (line : Line) : Type 0 where
  pub actors : AllByRecursion (λ a. not (is_actor s w a) ≡ false) ((roles line).takes_part ++ (roles line).named)
  pub message : meets s w line NoSuchMessage ≡ false
  pub receiver : meets s w line WrongReceiver ≡ false
  pub free : meets s w line Busy ≡ false
  pub up : meets s w line Crashed ≡ false
  pub liars : AllByRecursion (λ a. not (is_liar s w a) ≡ false) (roles line).lies
  pub working : meets s w line Idle ≡ false
  pub upright : AllByRecursion (λ a. is_liar s w a ≡ false) (roles line).takes_part
  pub quiet : meets s w line NotQuiet ≡ false
  pub read : meets s w line NoRead ≡ false
  pub fresh : meets s w line Worn ≡ false
  pub down : meets s w line NotCrashed ≡ false

pub no_fault : (s : Setting) (w : World) (line : Line) → fault s w line ≡ None → NoFault s w line
no_fault s w line h =
    let a = find_none (meets s w line) all_faults h in
    record {
      actors = some_none (λ a. not (is_actor s w a)) ((roles line).takes_part ++ (roles line).named) a.0;
      message = a.1.0;
      receiver = a.1.1.0;
      free = a.1.1.1.0;
      up = a.1.1.1.1.0;
      liars = some_none (λ a. not (is_liar s w a)) (roles line).lies a.1.1.1.1.1.0;
      working = a.1.1.1.1.1.1.0;
      upright = some_none (is_liar s w) (roles line).takes_part a.1.1.1.1.1.1.1.0;
      quiet = a.1.1.1.1.1.1.1.1.0;
      read = a.1.1.1.1.1.1.1.1.1.0;
      fresh = a.1.1.1.1.1.1.1.1.1.1.0;
      down = a.1.1.1.1.1.1.1.1.1.1.1.0;
    }

module _ (s : Setting) (good : IsValid s) (w : World) (safe : IsSafe s w) (place : ℕ) (later : w.place < place) where
  soon : w.place ≤ place
  soon = omega (arith, later)

  client_is : (c : ℕ) → not (is_actor s w (Client c)) ≡ false → IsClient s c
  client_is c h = let b = both_true _ _ (not_false _ h) in let x : leb 1 c ≡ true = b.0 in let y : leb c 1000 ≡ true = b.1 in (grind (arith, nat_tests), grind (arith, nat_tests))

  node_is : (i : ℕ) → not (is_actor s w (Node i)) ≡ false → i < s.n
  node_is i h = let x : ltb i s.n ≡ true = not_false _ h in grind (arith, nat_tests)

  idle_task : (o : Option Task) → does_something o ≡ false → o ≡ None
  idle_task None h = refl
  idle_task (Some task) h = absurd (cc)

  some_task : (o : Option Task) → does_something o ≡ true → (task : Task) × (o ≡ Some task)
  some_task None h = absurd (cc)
  some_task (Some task) h = (task, refl)

  -- a correct client that isn't idle
  task_is : (c : ℕ) → s.lying_client c ≡ false → is_idle s w c ≡ false → (task : Task) × (w.task c ≡ Some task)
  task_is c h k = some_task (w.task c) (at (s.lying_client c) (does_something (w.task c)) h k)
    where
      at : (a b : Bool) → a ≡ false → not a && not b ≡ false → b ≡ true
      at true b e f = absurd (cc)
      at false b e f = not_false b f

  ask_is : (i : ℕ) (m : Message) → not (is_ask_to i m.body m) ≡ false → IsAskTo s i m
  ask_is i m h = at m.body refl (not_false _ h)
    where
      at : (body : Body) → m.body ≡ body → is_ask_to i body m ≡ true → IsAskTo s i m
      at (Asks ask) e k = (grind (arith, nat_tests), ask, e)
      at (Answers reply) e k = absurd (cc)

  answer_is : (c : ℕ) (m : Message) → not (is_answer_to c m.body m) ≡ false → IsAnswerTo s c m
  answer_is c m h = at m.body refl (not_false _ h)
    where
      at : (body : Body) → m.body ≡ body → is_answer_to c body m ≡ true → IsAnswerTo s c m
      at (Asks ask) e k = absurd (cc)
      at (Answers reply) e k = (grind (arith, nat_tests), reply, e)

  of_liar : (m : Message) (body : Body) → not (is_liar s w (sender body m)) ≡ false → IsOfLiar s body m
  of_liar m (Asks ask) h = not_false _ h
  of_liar m (Answers reply) h = not_false _ h

  quiet_is : (block : ℕ) → is_busy_at s w block ≡ false → IsQuiet s w block
  quiet_is block h c task e f =
      let n = (safe.tasks c task e).numbered in
      let t : is_at block (under_way w c) ≡ true = rw e (eq-eqb task.block block f) in
      none_above (count 1001 (λ c. is_at block (under_way w c))) h (count_none 1001 (λ c. is_at block (under_way w c)) c (omega (arith, n.1)) t)

  read_is : (o : Option Stamp) → is_missing o ≡ false → (stamp : Stamp) × (o ≡ Some stamp)
  read_is None h = absurd (cc)
  read_is (Some stamp) h = (stamp, refl)

  few : (x : ℕ) → leb (2 ^ 32 - 1) x ≡ false → x < 2 ^ 32 - 1
  few x h = grind (arith, nat_tests)

  given_number : (i : ℕ) (o : Option Message) → ((m : Message) → o ≡ Some m → Contains w.pool m) → i < s.n → s.lying_node i ≡ false → w.node_crashed i ≡ false → misgiven i o ≡ false → AllAllowed s w place (given_at s w i o)
  given_number i None there l h k e = tt
  given_number i (Some m) there l h k e = (record { later = soon; node = l; honest = h; up = k; sent = there m refl; asks = ask_is i m e }, tt)

  heard_number : (c : ℕ) (o : Option Message) → ((m : Message) → o ≡ Some m → Contains w.pool m) → IsClient s c → s.lying_client c ≡ false → w.client_crashed c ≡ false → misheard c o ≡ false → AllAllowed s w place (heard_at s w c o)
  heard_number c None there l h k e = tt
  heard_number c (Some m) there l h k e = (record { later = soon; client = l; correct = h; up = k; sent = there m refl; answers = answer_is c m e }, tt)

  call_allowed : (c i : ℕ) → IsClient s c → i < s.n → s.lying_client c ≡ false → s.lying_node i ≡ false → w.client_crashed c ≡ false → w.node_crashed i ≡ false → (task : Task) → w.task c ≡ Some task → AllAllowed s w place (called s w c i (Some task))
  call_allowed c i number l h k up running task busy =
      let t = safe.tasks c task (is_under_way s w safe place soon c task up busy) in (
        record { later = soon; node = l; honest = k; up = running; sent = t.mailed i l; asks = (refl, Rattle.protocol.specs.Operations.ask_of s task i, refl) },
        (record { later = omega arith; client = number; correct = h; up = up; sent = Contains-push w.pool _; answers = (refl, Rattle.protocol.specs.Nodes.reply s i (w.versions i task.block) (Rattle.protocol.specs.Operations.ask_of s task i), refl) }, tt),
      )

  mixed_formed : (value other : List ℕ) → IsBlock s value → IsBlock s other → (i : ℕ) → IsBytes (mixed s value other i)
  mixed_formed value other h k i = at (eqb (i % 2) 0)
    where
      at : (b : Bool) → IsBytes (cond b (s.fragment_of value i) (s.fragment_of other i))
      at true = good.bytes-fragment value i h
      at false = good.bytes-fragment other i k

  digests_formed : (value other : List ℕ) → AreDigests (mixed_sum s value other)
  digests_formed value other = all_collect (λ d. length d ≡ 32) s.n (λ i. Some (s.digest (mixed s value other i))) (λ i x e. let q : s.digest (mixed s value other i) ≡ x = cc in ap length (sym q) ∙ good.length-digest (mixed s value other i))

  told_allowed : (reply : Option Reply) → IsFormedWhere reply → (c i : ℕ) → IsClient s c → i < s.n → s.lying_client c ≡ false → s.lying_node i ≡ true → w.client_crashed c ≡ false → (task : Task) → AllAllowed s w place (told s w c (answer_with s c i task reply))
  told_allowed None f c i number l h k up task = tt
  told_allowed (Some reply) f c i number l h k up task = ((soon, l, number, k, f), (record { later = omega arith; client = number; correct = h; up = up; sent = Contains-push w.pool _; answers = (refl, reply, refl) }, tt))

  false_allowed : (rule : Rule) (c i : ℕ) → IsClient s c → i < s.n → s.lying_client c ≡ false → s.lying_node i ≡ true → w.client_crashed c ≡ false → (task : Task) → AllAllowed s w place (falsely_told s w rule c i (Some task))
  false_allowed rule c i number l h k up task =
      let request = (Rattle.protocol.specs.Operations.ask_of s task i).request in
      told_allowed (false_reply s rule i request) (false_formed s good rule i request) c i number l h k up task

  in_pool : (k : ℕ) (m : Message) → slice_get w.pool k ≡ Some m → Contains w.pool m
  in_pool k m e = Contains-slice_get w.pool k m e

  pub events_allowed : (line : Line) → FitsLine s line → NoFault s w line → AllAllowed s w place (events s w line)
  events_allowed (Write c block value) fits fine =
      let a = fine.actors.0 in
      (record { later = later; client = client_is c a; correct = fine.upright.0; up = (some_none (has_crashed s w) (Client c ∷ []) fine.up).0; idle = idle_task (w.task c) fine.free; fresh = few (w.started c) fine.fresh; inside = fits.0; fits = fits.1 }, tt)
  events_allowed (Read c block) fits fine =
      (record { later = later; client = client_is c (fine.actors.0); correct = fine.upright.0; up = (some_none (has_crashed s w) (Client c ∷ []) fine.up).0; idle = idle_task (w.task c) fine.free; fresh = few (w.started c) fine.fresh; inside = fits; fits = tt }, tt)
  events_allowed (Resend c) fits fine =
      let h = fine.upright.0 in
      let t = task_is c h fine.working in
      (record { later = soon; client = client_is c (fine.actors.0); correct = h; up = (some_none (has_crashed s w) (Client c ∷ []) fine.up).0; task = t.0; busy = t.1 }, tt)
  events_allowed (Call c i) fits fine =
      let ups = some_none (has_crashed s w) (Client c ∷ Node i ∷ []) fine.up in
      let h = fine.upright.0 in
      let t = task_is c h fine.working in
      rw t.1 (call_allowed c i (client_is c (fine.actors.0)) (node_is i (fine.actors.1.0)) h (fine.upright.1.0) (ups.0)
      (ups.1.0) t.0 t.1)
  events_allowed (Give i k) fits fine =
      given_number i (slice_get w.pool k) (λ m e. in_pool k m e) (node_is i (fine.actors.0)) (fine.upright.0) ((some_none (has_crashed s w) (Node i ∷ []) fine.up).0) fine.receiver
  events_allowed (Hear c k) fits fine =
      heard_number c (slice_get w.pool k) (λ m e. in_pool k m e) (client_is c (fine.actors.0)) (fine.upright.0) ((some_none (has_crashed s w) (Client c ∷ []) fine.up).0) fine.receiver
  events_allowed (Lost c i) fits fine = tt
  events_allowed (CrashNode i) fits fine = ((soon, node_is i (fine.actors.0), fine.upright.0, (some_none (has_crashed s w) (Node i ∷ []) fine.up).0), tt)
  events_allowed (CrashClient c) fits fine = ((soon, client_is c (fine.actors.0), fine.upright.0, (some_none (has_crashed s w) (Client c ∷ []) fine.up).0), tt)
  events_allowed (Lie m) fits fine =
      ((soon, node_is m.node (fine.actors.0), client_is m.client (fine.actors.1.0), of_liar m m.body (fine.liars.0), fits), tt)
  events_allowed (Tell m) fits fine =
      let a = fine.actors.1 in (
        (soon, node_is m.node (a.0), client_is m.client (a.1.0), of_liar m m.body (fine.liars.0), fits),
        (record { later = omega arith; client = client_is m.client (fine.actors.0); correct = fine.upright.0; up = (some_none (has_crashed s w) (Client m.client ∷ []) fine.up).0; sent = Contains-push w.pool m; answers = answer_is m.client m fine.receiver }, tt),
      )
  events_allowed (Poke m) fits fine =
      let a = fine.actors.1 in (
        (soon, node_is m.node (a.0), client_is m.client (a.1.0), of_liar m m.body (fine.liars.0), fits),
        (record { later = omega arith; node = node_is m.node (fine.actors.0); honest = fine.upright.0; up = (some_none (has_crashed s w) (Node m.node ∷ []) fine.up).0; sent = Contains-push w.pool m; asks = ask_is m.node m fine.receiver }, tt),
      )
  events_allowed (False c i rule) fits fine =
      let h = fine.upright.0 in
      let t = task_is c h fine.working in
      rw t.1 (false_allowed rule c i (client_is c (fine.actors.0)) (node_is i (fine.actors.1.0)) h (not_false _ (fine.liars.0)) ((some_none (has_crashed s w) (Client c ∷ []) fine.up).0) t.0)
  events_allowed (Sound c i block time value) fits fine =
      let l = node_is i (fine.actors.0) in (
        (soon, l, client_is c (fine.actors.1.1.0), not_false _ (fine.liars.0), (sum_formed s good value fits, good.bytes-fragment value i fits)),
        (record { later = omega arith; node = l; honest = fine.upright.0; up = (some_none (has_crashed s w) (Node i ∷ []) fine.up).0; sent = Contains-push w.pool _; asks = (refl, _, refl) }, tt),
      )
  events_allowed (Mix c i block time value other) fits fine =
      let l = node_is i (fine.actors.0) in (
        (soon, l, client_is c (fine.actors.1.1.0), not_false _ (fine.liars.0), (digests_formed value other, mixed_formed value other fits.0 fits.1 i)),
        (record { later = omega arith; node = l; honest = fine.upright.0; up = (some_none (has_crashed s w) (Node i ∷ []) fine.up).0; sent = Contains-push w.pool _; asks = (refl, _, refl) }, tt),
      )
  events_allowed (Prune i block) fits fine =
      let r = read_is (greatest_given block w.records) fine.read in
      (record { later = soon; node = node_is i (fine.actors.0); honest = fine.upright.0; up = (some_none (has_crashed s w) (Node i ∷ []) fine.up).0; quiet = quiet_is block fine.quiet; stamp = r.0; given = r.1 }, tt)
  events_allowed (Back c) fits fine =
      ((soon, client_is c (fine.actors.0), fine.upright.0, not_false _ fine.down, few (w.life c) fine.fresh), tt)
  events_allowed (Restart i) fits fine = tt

  pub named_there : (line : Line) → NoFault s w line → Names s w line
  named_there (Write c block value) fine = tt
  named_there (Read c block) fine = tt
  named_there (Resend c) fine = tt
  named_there (Call c i) fine = task_is c fine.upright.0 fine.working
  named_there (Give i k) fine = not_leb k (length w.pool) fine.message
  named_there (Hear c k) fine = not_leb k (length w.pool) fine.message
  named_there (Lost c i) fine = tt
  named_there (CrashNode i) fine = tt
  named_there (CrashClient c) fine = tt
  named_there (Lie m) fine = tt
  named_there (Tell m) fine = tt
  named_there (Poke m) fine = tt
  named_there (False c i rule) fine = task_is c fine.upright.0 fine.working
  named_there (Sound c i block time value) fine = tt
  named_there (Mix c i block time value other) fine = tt
  named_there (Prune i block) fine = tt
  named_there (Back c) fine = tt
  named_there (Restart i) fine = (node_is i (fine.actors.0), fine.upright.0, (some_none (has_crashed s w) (Node i ∷ []) fine.up).0)
