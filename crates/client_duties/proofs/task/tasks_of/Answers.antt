use Rattle.std.proofs.Common.{◌∙◌, ℕ, ap, sym, subst, map, [], ◌∷◌, ◌++◌, List, All}
use Rattle.std.proofs.lemmas.List.{map_push}
use Rattle.std.proofs.lemmas.List.Elements.{All-push}
use Rattle.client_duties.specs.Tasks.{client_of, IsTaskOf}
use Rattle.client_duties.proofs.task.tasks_of.Goals as goal

pub loop-client-preserved : goal.loop-client-preserved
loop-client-preserved c =
    let task = c.in_ok-task_of.field-0 in
    record {
      clients = ap (map client_of) c.in_ok-push.ensures.ok ∙ map_push client_of c.loop-client.tasks task
          ∙ ap (λ (ks : List ℕ). ks ++ client_of task ∷ []) c.loop-client.invariant.clients
          ∙ ap (λ (k : ℕ). c.loop-client.yielded ++ k ∷ []) c.in_ok-task_of.ensures.client;
      each = subst (All (IsTaskOf c.args.plan.now)) (sym c.in_ok-push.ensures.ok) (All-push (IsTaskOf c.args.plan.now) c.loop-client.tasks task c.loop-client.invariant.each c.in_ok-task_of.ensures.task);
    }
