-- A line's events put together from their parts.
use Rattle.std.proofs.Common.{◌≡◌, ℕ, ◌<◌, Bool, true, false, List, [], ◌∷◌, Option, refl, sym, ap, ◌∙◌, cond, length, inl, inr, arith}
use Rattle.std.specs.Prelude.{slice_get, nat_le, not}
use Rattle.std.proofs.lemmas.Bool.Decides.{nat_tests}
use Rattle.std.proofs.lemmas.Option.{slice_get_cases}
use Rattle.std.proofs.lemmas.List.{append_assoc}
use Rattle.std.specs.declared.option.Option.TheVariants.{None, Some}
use Rattle.wire_forms.specs.declared.Body.TheVariants.{Ask as Asks, Answer as Answers}
use Rattle.protocol.specs.Messages.{Ask, Reply, Body, Message}
use Rattle.protocol.specs.Setting.{Setting}
use Rattle.protocol.specs.Operations.{is_counted, Task, Decision, decide, outstanding, ask_of, counted}
use Rattle.protocol.specs.World.Event.{Lie as Lies}
use Rattle.protocol.specs.Operations.Decision.{GoesOn, Ends}
use Rattle.protocol.specs.World.{World, only_place, happens, sent, given, heard, heard_by, advanced, decided, answer_of, all_happen}
use Rattle.protocol.specs.Lines.{plays, called, given_at, heard_at, is_actor, is_ask_to}
use Rattle.protocol.specs.Lines.Actor.{Node}
use Rattle.run_words.specs.declared.line.Line.TheVariants.{Call, Give, Hear, Tell, Poke}
use Rattle.world_state.specs.Changes.{handles, asked_by}

module _ (s : Setting) (place : ℕ) where
  -- a world of this place stays as it is where nothing but the place changes
  pub placed : (v : World) → v.place ≡ place → only_place s v place ≡ v
  placed v e = ap (λ (p : ℕ). record v { place = p }) (sym e)

  either : (b : Bool) (x y : World) → x.place ≡ place → y.place ≡ place → (cond b x y).place ≡ place
  either true x y e f = e
  either false x y e f = f

  module _ (v : World) (c : ℕ) where
    decided-place : (task : Task) (d : Decision) → (decided s v place c task d).place ≡ place
    decided-place task (GoesOn stage) = refl
    decided-place task (Ends outcome) = refl

    heard_by-place : (m : Message) (reply : Reply) (task : Option Task) → (heard_by s v place c task m reply).place ≡ place
    heard_by-place m reply None = refl
    heard_by-place m reply (Some task) =
        either (is_counted s task m.node m.tag reply) (advanced s v place c (counted task m.node reply)) (only_place s v place)
        (either _ _ _ refl (decided-place (counted task m.node reply) (decide s c (counted task m.node reply) task.stage)))
        refl

    -- whoever hears, the place is that of the line
    pub heard-place : (m : Message) (body : Body) → (heard s v place c m body).place ≡ place
    heard-place m (Asks ask) = refl
    heard-place m (Answers reply) = heard_by-place m reply (v.task c)

  module _ (w : World) (c i : ℕ) where
    called-is : (task : Task) → w.task c ≡ Some task
        → heard s (handles s w place i (ask_of s task i) (answer_of s w i (outstanding s c task i) (ask_of s task i) ∷ [])) place c (answer_of s w i (outstanding s c task i) (ask_of s task i)) (answer_of s w i (outstanding s c task i) (ask_of s task i)).body
        ≡ plays s w place (Call c i)
    called-is task e =
        sym (placed _ (heard-place (handles s w place i (ask_of s task i) (answer_of s w i (outstanding s c task i) (ask_of s task i) ∷ [])) c (answer_of s w i (outstanding s c task i) (ask_of s task i)) (answer_of s w i (outstanding s c task i) (ask_of s task i)).body))
        ∙ ap (λ (z : Option Task). only_place s (all_happen s w place (called s w c i z)) place) (sym e)

    same_message : (m : Message) (task : Task) → w.task c ≡ Some task → Some m ≡ asked_by s c i (w.task c) → m ≡ outstanding s c task i
    same_message m task e f = let g : Some m ≡ Some (outstanding s c task i) = f ∙ ap (asked_by s c i) e in grind (arith)

    same_ask : (m : Message) (ask : Ask) (task : Task) → m ≡ outstanding s c task i → m.body ≡ Asks ask → ask ≡ ask_of s task i
    same_ask m ask task e f = let g : Asks ask ≡ Asks (ask_of s task i) = sym f ∙ ap (λ (z : Message). z.body) e in grind (arith)

    -- the node handles what the client asks, and the client hears its answer
    pub called_plays : (m : Message) (ask : Ask) (a : Message) → (task : Task) × (w.task c ≡ Some task) → Some m ≡ asked_by s c i (w.task c) → m.body ≡ Asks ask → a ≡ answer_of s w i m ask
        → heard s (handles s w place i ask (a ∷ [])) place c a a.body ≡ plays s w place (Call c i)
    called_plays m ask a working e f g =
        let mine = same_message m working.0 working.1 e in
        let asked = same_ask m ask working.0 mine f in
        let told : a ≡ answer_of s w i (outstanding s c working.0 i) (ask_of s working.0 i) = g ∙ ap (λ (z : Message). answer_of s w i z ask) mine ∙ ap (answer_of s w i (outstanding s c working.0 i)) asked in
        ap (λ (z : Ask). heard s (handles s w place i z (a ∷ [])) place c a a.body) asked
        ∙ ap (λ (z : Message). heard s (handles s w place i (ask_of s working.0 i) (z ∷ [])) place c z z.body) told
        ∙ called-is working.0 working.1

  -- a node handles an ask of the pool
  pub given_plays : (w : World) (i k : ℕ) (m : Message) (ask : Ask) (a : Message) → slice_get w.pool k ≡ Some m → m.body ≡ Asks ask → a ≡ answer_of s w i m ask → (mail : List Message) → mail ≡ a ∷ [] → handles s w place i ask mail ≡ plays s w place (Give i k)
  given_plays w i k m ask a e f g mail h =
      ap (λ (z : List Message). handles s w place i ask z) (h ∙ ap (λ (z : Message). z ∷ []) g)
      ∙ ap (λ (z : Body). only_place s (given s w place i m z) place) (sym f)
      ∙ ap (λ (z : Option Message). only_place s (all_happen s w place (given_at s w i z)) place) (sym e)

  -- an ask is sent, and its node handles it
  pub poked_plays : (w : World) (m : Message) (ask : Ask) (a : Message) → m.body ≡ Asks ask → a ≡ answer_of s w m.node m ask → (mail : List Message) → mail ≡ m ∷ a ∷ [] → handles s w place m.node ask mail ≡ plays s w place (Poke m)
  poked_plays w m ask a e f mail g =
      ap (λ (z : List Message). handles s w place m.node ask z) (g ∙ ap (λ (z : Message). m ∷ z ∷ []) f)
      ∙ ap (λ (z : List Message). record (handles s w place m.node ask []) { pool = z }) (sym (append_assoc w.pool (m ∷ []) (answer_of s w m.node m ask ∷ [])))
      ∙ ap (λ (z : Body). only_place s (given s (happens s w place (Lies m)) place m.node m z) place) (sym e)

  -- a message is sent, and its client hears it
  pub told_plays : (w : World) (m : Message) → heard s (sent s w place (m ∷ [])) place m.client m m.body ≡ plays s w place (Tell m)
  told_plays w m = sym (placed _ (heard-place (sent s w place (m ∷ [])) m.client m m.body))

  -- a client hears a message of the pool
  pub heard_plays : (w : World) (c k : ℕ) (m : Message) → slice_get w.pool k ≡ Some m → heard s w place c m m.body ≡ plays s w place (Hear c k)
  heard_plays w c k m e =
      sym (placed _ (heard-place w c m m.body)) ∙ ap (λ (z : Option Message). only_place s (all_happen s w place (heard_at s w c z)) place) (sym e)

  -- an actor that a line names is there
  pub is_node : (w : World) (i : ℕ) → not (is_actor s w (Node i)) ≡ false → i < s.n
  is_node w i e = grind (arith, nat_tests)

  -- a message that isn't misgiven to its node is an ask
  pub is_ask : (m : Message) → not (is_ask_to m.node m.body m) ≡ false → (ask : Ask) × (m.body ≡ Asks ask)
  is_ask m e = at m.body refl e
    where
      at : (b : Body) → m.body ≡ b → not (is_ask_to m.node b m) ≡ false → (ask : Ask) × (m.body ≡ Asks ask)
      at (Asks ask) f g = (ask, f)
      at (Answers reply) f g = absurd (cc)

  -- a message whose number is that of one is there
  pub is_pooled : (w : World) (k : ℕ) → nat_le (length w.pool) k ≡ false → (m : Message) × (slice_get w.pool k ≡ Some m)
  is_pooled w k e =
      let l : k < length w.pool = grind (arith, nat_tests) in
      elim (slice_get_cases w.pool k).1 [ inl h ↦ (h.0, h.2) | inr h ↦ absurd (let x = h.0 in omega (arith, l, x)) ]
