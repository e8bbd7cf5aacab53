-- The law of runs that have ended.
use Rattle.std.proofs.Common.{◌≡◌, sym, ap, subst, ◌∙◌}
use Rattle.std.proofs.lemmas.List.Elements.{All-contains}
use Rattle.journals.specs.Records.{told_records}
use Rattle.journals.specs.declared.whole.Journals.{Journals}
use Rattle.plan_words.specs.declared.plan.Plan.{Plan}
use Rattle.plan_words.specs.Plans.{Fits}
use Rattle.plan_followed.specs.Followed.{AreOfPlan}
use Rattle.phase_threads.specs.Standing.{IsDeskAt, journals_of}
use Rattle.phase_threads.specs.Ended.{HasEnded}
use Rattle.client_threads.specs.Running.{plan_of, clients_of, cuts}
use Rattle.client_threads.proofs.Together.{kept_told}
use Rattle.client_threads.proofs.run.finish.Goals as goal

pub returns-clause-followed : goal.returns-clause-followed
returns-clause-followed c =
    let run = c.args.run in
    let plan = c.args.plan.now in
    let h = c.requires.worked in
    let closed = c.in_ok-closed.closed in
    let told = c.in_ok-closed.ensures in
    let ended : HasEnded (plan_of run) run.clock run.cells.items (clients_of run) closed.drawn.count h.phases h.prunes = record {
      cells = h.standing.planned;
      clients = h.standing.clients;
      kept = record { cells = told.cells; desks = told.kept };
      pairs = h.standing.pairs;
      numbers = told.drawn;
      closed = h.closed;
      count = h.count ∙ ap cuts (sym c.requires.plan);
      done = h.off;
    } in
    let followed = c.runs_end.ensures (plan_of run) run.clock run.cells.items (clients_of run) closed.drawn.count h.phases h.prunes (subst Fits (sym c.requires.plan) c.requires.fits) ended in
    let of_plan = subst (λ (p : Plan). AreOfPlan p (journals_of p run.cells.items (clients_of run)) closed.drawn.count) c.requires.plan followed in
    let same : ◌≡◌ {A = Journals} (record { config = plan.config; liars = c.args.liars; nodes = closed.nodes; desks = closed.desks }) (journals_of plan run.cells.items (clients_of run)) =
    λ i. record { config = plan.config; liars = c.requires.liars i; nodes = told.nodes i; desks = told.desks i } in
    subst (λ (j : Journals). AreOfPlan plan j closed.drawn.count) (sym same) of_plan

pub returns-clause-records : goal.returns-clause-records
returns-clause-records c =
    let run = c.args.run in
    let desks = clients_of run in
    let at_desks = c.requires.worked.standing.opened.desks in
    let told = c.in_ok-closed.ensures in
    told.records
    ∙ kept_told c.args.plan.now.config desks (λ d there. (All-contains (IsDeskAt (plan_of run).config run.clock) desks d at_desks there).cluster ∙ ap (λ (p : Plan). p.config) c.requires.plan)
    ∙ ap (told_records c.args.plan.now.config) (sym told.desks)
