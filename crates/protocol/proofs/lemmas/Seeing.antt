-- The code's states, seen as first-order data, move as those of the definitions do.
use Rattle.std.proofs.Common.{◌≡◌, ◌⊎◌, ◌∷◌, eqb, ℕ, ◌-◌, ◌<◌, Bool, true, false, cond, List, [], length, replicate, Option, refl, sym, ◌∙◌, ap, inl, inr, arith, ltb}
use Rattle.std.specs.Prelude.{slice_index_or, slice_set}
use Rattle.std.specs.declared.option.Option.TheVariants.{None, Some}
use Rattle.std.proofs.lemmas.Bool.{cases_lt}
use Rattle.std.proofs.lemmas.List.{get_or-set_same, get_or-set_other, get_or-replicate, get_or_past, length-replicate, length-set}
use Rattle.protocol.specs.Count.{update}
use Rattle.protocol.specs.Messages.{Version, Tag, Reply, Message}
use Rattle.protocol.specs.Setting.{Setting}
use Rattle.protocol.specs.Operations.{Task, Work, Stage, Decision, decide, mail, goes_on, begun, counted, answered}
use Rattle.protocol.specs.Operations.Stage.{Times, Versions, Storing}
use Rattle.protocol.specs.Operations.Decision.{GoesOn, Ends}
use Rattle.protocol.specs.Nodes.{first_version}
use Rattle.protocol.specs.World.{World, start_world, moved, only_place, decided, advanced, heard_by, open_record}
use Rattle.protocol.specs.Seen.{SeenClient, SeenWorld, client_at, new_client, started_task, world_of, SeenTask, answers_of, task_at, seen_begun, seen_goes_on, seen_counted, is_counted, by_decision, after_counting, hearing}
use Rattle.protocol.specs.Seen.Hearing.{Ignored, Counted}
pub use Rattle.protocol.specs.Views.{IsFull, after_hearing, task_after}
use Rattle.protocol.proofs.lemmas.Counting.{update-cases, both_true}
use Rattle.protocol.proofs.lemmas.Tests.{is_ltb}

pub funext : {A B : Type 0} (f g : A → B) → ((x : A) → f x ≡ g x) → f ≡ g
funext f g h i x = h x i

-- a list with one entry changed, as a function
pub at_list : {A : Type 0} (xs : List A) (d v : A) (i : ℕ) → i < length xs → (j : ℕ) → slice_index_or (slice_set xs i v) j d ≡ update (λ k. slice_index_or xs k d) i v j
at_list xs d v i l j = elim (update-cases (λ k. slice_index_or xs k d) i v j) [
  | inl e ↦ rw (e.0) (get_or-set_same xs i v d l) ∙ sym e.1
  | inr e ↦ get_or-set_other xs i j v d e.0 ∙ sym e.1
]

-- no entry but one
pub at_replicate : {A : Type 0} (n : ℕ) (d : A) (i : ℕ) → slice_index_or (replicate n d) i d ≡ d
at_replicate n d i = elim (cases_lt i n) [
  | inl l ↦ get_or-replicate n i d d l
  | inr h ↦ get_or_past (replicate n d) i d (let l : length (replicate n d) ≡ n = length-replicate n d in omega (arith, l, h))
]

-- the operation at its start place, with these answers
abbrev with_answers : ℕ → SeenTask → (ℕ → Option Reply) → Task
with_answers start t answers = record { op = t.op; block = t.block; work = t.work; start = start; phase = t.phase; rounds = t.rounds; stage = t.stage; answers = answers }

module _ (start : ℕ) where
  -- an answer that is counted
  pub counted-seen : (t : SeenTask) (node : ℕ) (reply : Reply) → node < length t.answers → task_at start (seen_counted t node reply) ≡ counted (task_at start t) node reply
  counted-seen t node reply l = ap (with_answers start t) (funext _ _ (λ j. at_list t.answers None (Some reply) node l j))

  module _ (s : Setting) where
    -- a next phase
    pub goes_on-seen : (t : SeenTask) (stage : Stage) → task_at start (seen_goes_on s t stage) ≡ goes_on (task_at start t) stage
    goes_on-seen t stage = ap (with_answers start (seen_goes_on s t stage)) (funext _ _ (λ j. at_replicate s.n None j))

    -- a new operation
    pub begun-seen : (op block : ℕ) (work : Work) → task_at start (seen_begun s op block work) ≡ begun op block work start
    begun-seen op block work = ap (with_answers start (seen_begun s op block work)) (funext _ _ (λ j. at_replicate s.n None j))

    -- how a phase ends hangs on no start place
    pub decide-start : (c : ℕ) (t : SeenTask) (stage : Stage) (other : ℕ) → decide s c (task_at other t) stage ≡ decide s c (task_at start t) stage
    decide-start c t Times other = refl
    decide-start c t (Versions bound) other = refl
    decide-start c t (Storing stamp value) other = refl

-- there is a place for each node's answer, always
pub length-begun : (s : Setting) (op block : ℕ) (work : Work) → length (seen_begun s op block work).answers ≡ s.n
length-begun s op block work = length-replicate s.n None

pub length-goes_on : (s : Setting) (t : SeenTask) (stage : Stage) → length (seen_goes_on s t stage).answers ≡ s.n
length-goes_on s t stage = length-replicate s.n None

pub length-counted : (t : SeenTask) (node : ℕ) (reply : Reply) → length (seen_counted t node reply).answers ≡ length t.answers
length-counted t node reply = length-set t.answers node (Some reply)

module _ (s : Setting) (w : World) (place c start : ℕ) where
  decision-seen : (t u : SeenTask) → u.block ≡ t.block → u.work ≡ t.work → (d : Decision) → decided s w place c (task_at start u) d ≡ after_hearing s w place c start t (by_decision s u d)
  decision-seen t u e f (GoesOn stage) = ap (λ (z : Task). moved s w place c (Some z) (mail s c z) (open_record c z)) (sym (goes_on-seen start s u stage))
  decision-seen t u e f (Ends outcome) =
      ap (λ (k : ℕ × Work). moved s w place c None [] (record { client = c; block = k.0; work = k.1; start = start; end = Some place; stamp = Rattle.protocol.specs.World.stamp_of_outcome outcome; outcome = Some outcome }))
      (let p : (u.block, u.work) ≡ (t.block, t.work) = λ i. (e i, f i) in p)

  counting-seen : (t u : SeenTask) → u.block ≡ t.block → u.work ≡ t.work → advanced s w place c (task_at start u) ≡ after_hearing s w place c start t (after_counting s c u)
  counting-seen t u e f = at (ltb (answered s (λ i. answers_of u i)) (s.n - s.t))
    where
      at : (b : Bool) → cond b (moved s w place c (Some (task_at start u)) [] (open_record c (task_at start u))) (decided s w place c (task_at start u) (decide s c (task_at start u) u.stage))
          ≡ after_hearing s w place c start t (cond b (Counted u) (by_decision s u (decide s c (task_at 0 u) u.stage)))
      at true = refl
      at false = decision-seen t u e f (decide s c (task_at start u) u.stage) ∙ ap (λ (d : Decision). after_hearing s w place c start t (by_decision s u d)) (sym (decide-start start s c u u.stage 0))

  node_below : (t : SeenTask) (m : Message) (given : Reply) → is_counted s t m.node m.tag given ≡ true → m.node < s.n
  node_below t m given h =
      let l : ltb m.node s.n ≡ true = (both_true _ _ (both_true _ _ (both_true _ _ h).0).0).1 in
      is_ltb m.node s.n l

  -- an answer is heard: the four cases of `hearing`
  pub heard_by-seen : (t : SeenTask) → length t.answers ≡ s.n → (m : Message) (given : Reply) → heard_by s w place c (Some (task_at start t)) m given ≡ after_hearing s w place c start t (hearing s c t m.node m.tag given)
  heard_by-seen t full m given = at (is_counted s t m.node m.tag given) refl
    where
      at : (b : Bool) → is_counted s t m.node m.tag given ≡ b
          → cond b (advanced s w place c (counted (task_at start t) m.node given)) (only_place s w place) ≡ after_hearing s w place c start t (cond b (after_counting s c (seen_counted t m.node given)) Ignored)
      at false e = refl
      at true e =
          let l = node_below t m given e in
          ap (λ (z : Task). advanced s w place c z) (sym (counted-seen start t m.node given (omega (arith, l, full))))
          ∙ counting-seen t (seen_counted t m.node given) refl refl

-- an operation keeps one place for each node's answer
module _ (s : Setting) (c : ℕ) where
  decision_full : (t u : SeenTask) (d : Decision) → IsFull s.n (task_after t (by_decision s u d))
  decision_full t u (GoesOn stage) = length-goes_on s u stage
  decision_full t u (Ends outcome) = tt

  counting_full : (t u : SeenTask) → length u.answers ≡ s.n → IsFull s.n (task_after t (after_counting s c u))
  counting_full t u full = at (ltb (answered s (λ i. answers_of u i)) (s.n - s.t))
    where
      at : (b : Bool) → IsFull s.n (task_after t (cond b (Counted u) (by_decision s u (decide s c (task_at 0 u) u.stage))))
      at true = full
      at false = decision_full t u (decide s c (task_at 0 u) u.stage)

  pub hearing_full : (t : SeenTask) → length t.answers ≡ s.n → (node : ℕ) (tag : Tag) (reply : Reply) → IsFull s.n (task_after t (hearing s c t node tag reply))
  hearing_full t full node tag reply = at (is_counted s t node tag reply)
    where
      at : (b : Bool) → IsFull s.n (task_after t (cond b (after_counting s c (seen_counted t node reply)) Ignored))
      at true = counting_full t (seen_counted t node reply) (length-counted t node reply ∙ full)
      at false = full

-- ---- one change of the seen world is that change of the world

field_update : {A B : Type 0} (f : A → B) (g : ℕ → A) (c : ℕ) (v : A) (d : ℕ) → f (update g c v d) ≡ update (λ j. f (g j)) c (f v) d
field_update {A} {B} f g c v d = at (eqb d c)
  where
    at : (b : Bool) → f (cond b v (g d)) ≡ cond b (f v) (f (g d))
    at true = refl
    at false = refl

module _ (s : Setting) (w : SeenWorld) where
  -- a client, its operation and where that began
  module _ (c : ℕ) (k : SeenClient) (inside : c < length w.clients) where
    abbrev with_client : ℕ → SeenClient
    with_client d = slice_index_or (slice_set w.clients c k) d new_client

    client-set : (d : ℕ) → with_client d ≡ update (client_at w) c k d
    client-set d = at_list w.clients new_client k c inside d

    pub life-set : (λ d. (with_client d).life) ≡ update (world_of s w).life c k.life
    life-set = funext _ _ (λ d. ap (λ (x : SeenClient). x.life) (client-set d) ∙ field_update (λ (x : SeenClient). x.life) (client_at w) c k d)

    pub started-set : (λ d. (with_client d).started) ≡ update (world_of s w).started c k.started
    started-set = funext _ _ (λ d. ap (λ (x : SeenClient). x.started) (client-set d) ∙ field_update (λ (x : SeenClient). x.started) (client_at w) c k d)

    -- where the start changes too
    pub task-begun : (start : ℕ) → c < length w.starts → (λ d. started_task (slice_index_or (slice_set w.starts c start) d 0) (with_client d).task) ≡ update (world_of s w).task c (started_task start k.task)
    task-begun start l = funext _ _ (λ d.
        ap (λ (x : ℕ × SeenClient). started_task x.0 x.1.task) (pair (at_list w.starts 0 start c l d) (client-set d))
        ∙ both (eqb d c) (slice_index_or w.starts d 0) (client_at w d))
      where
        pair : {a b : ℕ} {x y : SeenClient} → a ≡ b → x ≡ y → ◌≡◌ {A = ℕ × SeenClient} (a, x) (b, y)
        pair e f j = (e j, f j)

        both : (b : Bool) (n : ℕ) (x : SeenClient) → started_task (cond b start n) (cond b k x).task ≡ cond b (started_task start k.task) (started_task n x.task)
        both true n x = refl
        both false n x = refl

    -- where it stays
    pub task-set : (λ d. started_task (slice_index_or w.starts d 0) (with_client d).task) ≡ update (world_of s w).task c (started_task (slice_index_or w.starts c 0) k.task)
    task-set = funext _ _ (λ d. ap (λ (x : SeenClient). started_task (slice_index_or w.starts d 0) x.task) (client-set d) ∙ at d (update-cases (client_at w) c k d) (update-cases (world_of s w).task c (started_task (slice_index_or w.starts c 0) k.task) d))
      where
        at : (d : ℕ) → ((d ≡ c) × (update (client_at w) c k d ≡ k)) ⊎ ((d ≡ c → ⊥) × (update (client_at w) c k d ≡ client_at w d))
            → ((d ≡ c) × (update (world_of s w).task c (started_task (slice_index_or w.starts c 0) k.task) d ≡ started_task (slice_index_or w.starts c 0) k.task)) ⊎ ((d ≡ c → ⊥) × (update (world_of s w).task c (started_task (slice_index_or w.starts c 0) k.task) d ≡ (world_of s w).task d))
            → started_task (slice_index_or w.starts d 0) (update (client_at w) c k d).task ≡ update (world_of s w).task c (started_task (slice_index_or w.starts c 0) k.task) d
        at d (inl e) (inl f) = ap (λ (x : SeenClient). started_task (slice_index_or w.starts d 0) x.task) e.1 ∙ ap (λ (j : ℕ). started_task (slice_index_or w.starts j 0) k.task) e.0 ∙ sym f.1
        at d (inl e) (inr f) = absurd (f.0 e.0)
        at d (inr e) (inl f) = absurd (e.0 f.0)
        at d (inr e) (inr f) = ap (λ (x : SeenClient). started_task (slice_index_or w.starts d 0) x.task) e.1 ∙ sym f.1

  -- who has crashed
  pub node_crashed-set : (i : ℕ) (b : Bool) → i < length w.node_crashed → (λ j. slice_index_or (slice_set w.node_crashed i b) j false) ≡ update (world_of s w).node_crashed i b
  node_crashed-set i b l = funext _ _ (λ j. at_list w.node_crashed false b i l j)

  pub client_crashed-set : (c : ℕ) (b : Bool) → c < length w.client_crashed → (λ d. slice_index_or (slice_set w.client_crashed c b) d false) ≡ update (world_of s w).client_crashed c b
  client_crashed-set c b l = funext _ _ (λ d. at_list w.client_crashed false b c l d)

  -- what node i keeps of a block
  pub versions-set : (i block : ℕ) (vs : List Version) → i < length w.versions → block < length (slice_index_or w.versions i [])
      → (λ j b. slice_index_or (slice_index_or (slice_set w.versions i (slice_set (slice_index_or w.versions i []) block vs)) j []) b (first_version s j ∷ []))
      ≡ update (world_of s w).versions i (update ((world_of s w).versions i) block vs)
  versions-set i block vs l m = funext _ _ (λ j. at j (update-cases (world_of s w).versions i (update ((world_of s w).versions i) block vs) j))
    where
      row : List (List Version)
      row = slice_set (slice_index_or w.versions i []) block vs

      at : (j : ℕ) → ((j ≡ i) × (update (world_of s w).versions i (update ((world_of s w).versions i) block vs) j ≡ update ((world_of s w).versions i) block vs))
          ⊎ ((j ≡ i → ⊥) × (update (world_of s w).versions i (update ((world_of s w).versions i) block vs) j ≡ (world_of s w).versions j))
          → (λ b. slice_index_or (slice_index_or (slice_set w.versions i (slice_set (slice_index_or w.versions i []) block vs)) j []) b (first_version s j ∷ []))
          ≡ update (world_of s w).versions i (update ((world_of s w).versions i) block vs) j
      at j (inl e) =
          funext _ _ (λ b.
          ap (λ (r : List (List Version)). slice_index_or r b (first_version s j ∷ [])) (rw (e.0) (get_or-set_same w.versions i (slice_set (slice_index_or w.versions i []) block vs) [] l))
          ∙ ap (λ (k : ℕ). slice_index_or (slice_set (slice_index_or w.versions i []) block vs) b (first_version s k ∷ [])) e.0
          ∙ at_list (slice_index_or w.versions i []) (first_version s i ∷ []) vs block m b)
          ∙ sym e.1
      at j (inr e) =
          funext _ _ (λ b. ap (λ (r : List (List Version)). slice_index_or r b (first_version s j ∷ [])) (get_or-set_other w.versions i j (slice_set (slice_index_or w.versions i []) block vs) [] e.0))
          ∙ sym e.1

-- the world before anything took place, if each row and each client is as new
module _ (s : Setting) (w : SeenWorld) (rows : (i block : ℕ) → i < length w.versions → block < length (slice_index_or w.versions i []) → slice_index_or (slice_index_or w.versions i []) block (first_version s i ∷ []) ≡ first_version s i ∷ []) where
  pub versions-new : (world_of s w).versions ≡ (start_world s).versions
  versions-new = funext _ _ (λ i. funext _ _ (λ block. elim (cases_lt i (length w.versions)) [
    | inl l ↦ elim (cases_lt block (length (slice_index_or w.versions i []))) [ inl m ↦ rows i block l m | inr m ↦ get_or_past (slice_index_or w.versions i []) block (first_version s i ∷ []) m ]
    | inr l ↦ ap (λ (r : List (List Version)). slice_index_or r block (first_version s i ∷ [])) (get_or_past w.versions i [] l) ∙ get_or_past {X = List Version} [] block (first_version s i ∷ []) (omega arith)
  ]))
