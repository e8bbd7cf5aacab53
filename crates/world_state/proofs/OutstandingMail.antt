-- The messages of a client's present phase, node by node.
use Rattle.std.proofs.Common.{◌≡◌, ℕ, zero, suc, ◌<◌, true, cond, List, [], ◌++◌, Option, refl, ◌∙◌, ap, arith, ltb}
use Rattle.std.specs.declared.option.Option.TheVariants.{None, Some}
use Rattle.std.specs.Prelude.{slice_index_or}
use Rattle.std.proofs.lemmas.Bool.Decides.{nat_tests}
use Rattle.std.proofs.lemmas.List.{append-nil}
use Rattle.protocol.specs.Count.{collect, one_more}
use Rattle.protocol.specs.Messages.{Message}
use Rattle.protocol.specs.Instance.{setting}
use Rattle.protocol.specs.Operations.{outstanding}
use Rattle.protocol.specs.World.{sent, resent_by}
use Rattle.protocol.specs.Seen.{SeenTask, client_at, task_at, started_task, outstanding_of}
use Rattle.world_state.specs.Worlds.{WorldView, setting_in, world_in}

collect-same : {A : Type 0} (n : ℕ) (f g : ℕ → Option A) → ((i : ℕ) → i < n → f i ≡ g i) → collect n f ≡ collect n g
collect-same zero f g h = refl
collect-same (suc k) f g h = λ i. one_more (collect-same k f g (λ j l. h j (omega (arith, l))) i) (h k (omega arith) i)

collect-none : {A : Type 0} (n : ℕ) → collect {A = A} n (λ i. None) ≡ []
collect-none zero = refl
collect-none (suc k) = collect-none k

below : {A : Type 0} (i n : ℕ) (x : A) → i < n → cond (ltb i n) (Some x) None ≡ Some x
below i n x l = let e : ltb i n ≡ true = grind (arith, nat_tests) in rw e refl

-- they are sent again
pub resent : (v : WorldView) (place k : ℕ) (all : List Message) → all ≡ collect v.config.n (outstanding_of (setting v.config) k (client_at v.seen k).task)
    → sent (setting_in v) (world_in v) place all ≡ resent_by (setting_in v) (world_in v) place k ((world_in v).task k)
resent v place k all e = ap (sent (setting_in v) (world_in v) place) e ∙ at (client_at v.seen k).task
  where
    at : (o : Option SeenTask) → sent (setting_in v) (world_in v) place (collect v.config.n (outstanding_of (setting v.config) k o))
        ≡ resent_by (setting_in v) (world_in v) place k (started_task (slice_index_or v.seen.starts k 0) o)
    at None = λ i. record (world_in v) { pool = (ap (λ (x : List Message). v.seen.pool ++ x) (collect-none v.config.n) ∙ append-nil v.seen.pool) i; place = place }
    at (Some t) =
        ap (sent (setting_in v) (world_in v) place)
        (collect-same v.config.n (outstanding_of (setting v.config) k (Some t)) (λ i. Some (outstanding (setting v.config) k (task_at 0 t) i)) (λ i l. below i v.config.n (outstanding (setting v.config) k (task_at 0 t) i) l))
