-- The lines of steps that go are a run, and each of its worlds agrees with the cluster after as many steps.
use Rattle.std.proofs.Common.{◌≡◌, ℕ, zero, suc, ◌+◌, ◌<◌, List, [], ◌∷◌, ◌++◌, map, take, Option, refl, sym, ap, subst}
use Rattle.std.specs.declared.option.Option.TheVariants.{Some}
use Rattle.std.proofs.lemmas.List.{get_or-replicate}
use Rattle.node_core.specs.Seen.{versions_in, new_node}
use Rattle.protocol.specs.Nodes.{first_version}
use Rattle.protocol.specs.Instance.{setting, IsCluster}
use Rattle.protocol.specs.World.{World, start_world}
use Rattle.protocol.specs.Lines.{Line, StepFault, Run, IsRun, plays}
use Rattle.journals.specs.declared.node.NodeAct.TheVariants.{Answered, Lied, Silent, CrashedAt, Delivered, LateLost, Pruned}
use Rattle.journals.specs.declared.desk.DeskAct.TheVariants.{Start, Crash, Call}
use Rattle.journals.specs.Steps.{Cluster, Step, IsConduct, new_cluster, cluster_after, cluster_replay, Goes, AllGo}
use Rattle.journals.specs.Steps.Step.{AtNode, AtDesk}
use Rattle.journals.specs.Merging.{line_of, late_ask, IsNumber, unless_refused, Merged}
use Rattle.journals.specs.Agreement.{Agrees, TellAlike, Reaches}
use Rattle.journals.proofs.Cited.{Laws}
use Rattle.journals.proofs.lemmas.Picks.{Numbered, Counts}
use Rattle.journals.proofs.Frames.{Frame, set, AreOf, start_of, step_of, Before, Taken}
use Rattle.journals.proofs.lemmas.Taking.{place_below_next, taken_start, crash_client, taken_silent, late_lost}
use Rattle.journals.proofs.Answering.{answered, lied, crash_node, delivered}
use Rattle.journals.proofs.Telling.{step_tells}
use Rattle.journals.proofs.Pruning.{prune}
use Rattle.lists.proofs.lemmas.Members.{Contains-none}

-- whatever step it is, its line isn't refused, and world and cluster agree after it
pub step_taken : {f : Frame} {w : World} {g : Cluster} {n : ℕ} (b : Before f w g n) (k : ℕ) (e : Step) → IsNumber (Some w) (late_ask e) k → Goes (set f) f.conduct g e → Taken f w n (line_of (set f) k e) (cluster_after g n e)
step_taken b k (AtDesk c (Start op)) number goes = taken_start b c op goes
step_taken b k (AtDesk c Crash) number goes = crash_client b c goes
step_taken b k (AtDesk c (Call way ask answer)) number goes = absurd (goes.2)
step_taken b k (AtNode i (Answered ask answer)) number goes = answered b i k ask answer goes
step_taken b k (AtNode i (Lied ask answer)) number goes = lied b i k ask answer goes
step_taken b k (AtNode i (Silent ask why)) number goes = taken_silent b i ask why goes
step_taken b k (AtNode i (LateLost ask)) number goes = late_lost b i ask
step_taken b k (AtNode i (CrashedAt ask late)) number goes = crash_node b i ask late goes
step_taken b k (AtNode i (Delivered ask answer)) number goes = delivered b i k ask answer number goes
step_taken b k (AtNode i (Pruned block stamp)) number goes = prune b i block stamp goes

module _ (laws : Laws) (f : Frame) (cluster : IsCluster f.config f.nodes) (behave : IsConduct f.nodes f.conduct) where
  -- a world of a run and the cluster that agrees with it, after as many lines as its place
  pub record Stands (w : World) (g : Cluster) (n : ℕ) : Type 0 where
    pub lines : List (ℕ × Line)
    pub run : IsRun (set f) lines w
    pub fixed : AreOf f g
    pub agrees : Agrees (set f) w g
    pub tells : TellAlike (set f) w g
    pub at : w.place ≡ n

  pub before : {w : World} {g : Cluster} {n : ℕ} → Stands w g n → Before f w g n
  before {w = w} h = record {
    laws = laws;
    cluster = cluster;
    behave = behave;
    works = laws.tasks f.config f.nodes f.clients cluster h.lines w h.run;
    fixed = h.fixed;
    agrees = h.agrees;
    tells = h.tells;
    at = h.at;
  }

  pub start_stands : Stands (start_world (set f)) (new_cluster f.config f.conduct) 0
  start_stands = record {
    lines = [];
    run = refl;
    fixed = start_of f behave;
    agrees = record {
      nodes = λ i h. record { versions = λ block l. fresh block l i; crashed = refl };
      desks = λ c h. record { life = refl; started = refl; crashed = refl; task = refl; full = tt };
      sent = λ i m h up there. absurd (Contains-none m there);
    };
    tells = record { ended = λ r x. absurd (Contains-none x.operation x.there); told = λ r outcome h e. absurd (Contains-none r h) };
    at = refl;
  }
    where
      fresh : (block : ℕ) → block < f.config.blocks → (i : ℕ) → (start_world (set f)).versions i block ≡ versions_in (new_node f.config i) block
      fresh block l i = sym (get_or-replicate f.config.blocks block (first_version (setting f.config) i ∷ []) [] l)

  -- one more step
  pub next_stands : {w : World} {g : Cluster} {n : ℕ} (h : Stands w g n) (k : ℕ) (e : Step) → IsNumber (Some w) (late_ask e) k → Goes (set f) f.conduct g e → Stands (plays (set f) w (n + 1) (line_of (set f) k e)) (cluster_after g n e) (n + 1)
  next_stands {w = w} {g = g} {n = n} h k e number goes =
      let b = before h in
      let taken = step_taken b k e number goes in
      record {
        lines = h.lines ++ (n + 1, line_of (set f) k e) ∷ [];
        run = (laws.runs (set f) (start_world (set f)) h.lines ((n + 1, line_of (set f) k e) ∷ []) (plays (set f) w (n + 1) (line_of (set f) k e))).1 (w, h.run, (place_below_next b, taken.fits, taken.fine, refl));
        fixed = step_of f g h.fixed n e;
        agrees = taken.agrees;
        tells = step_tells b k e goes;
        at = refl;
      }

  pub along : (es : List Numbered) (lines : List (ℕ × Line)) {w : World} {g : Cluster} {n : ℕ} → Stands w g n → AllGo (set f) f.conduct g es → Counts n es → Merged (set f) (Some w) n (map (λ p. p.1) es) lines
      → (m : ℕ) → Reaches (set f) w (take m lines) (cluster_replay g (take m es))
  along es lines {w = w} h go counts merged zero = record { last = w; run = refl; agrees = h.agrees; tells = h.tells }
  along [] lines {w = w} h go counts merged (suc m) = record { last = w; run = rw merged refl; agrees = h.agrees; tells = h.tells }
  along (e ∷ es) lines {w = w} {g = g} {n = n} h go counts merged (suc m) =
      let k = merged.0 in
      let rest = merged.1 in
      let line = line_of (set f) k e.1 in
      let b = before h in
      let taken = step_taken b k e.1 merged.2 go.0 in
      let next = plays (set f) w (n + 1) line in
      let rest_merged : Merged (set f) (Some next) (n + 1) (map (λ p. p.1) es) rest =
      subst (λ (o : Option StepFault). Merged (set f) (unless_refused (set f) w (n + 1) line o) (n + 1) (map (λ p. p.1) es) rest) taken.fine merged.4 in
      let go_on : AllGo (set f) f.conduct (cluster_after g n e.1) es = subst (λ (x : ℕ). AllGo (set f) f.conduct (cluster_after g x e.1) es) counts.0 go.1 in
      let after = along es rest (next_stands h k e.1 merged.2 go.0) go_on counts.1 rest_merged m in
      let same : cluster_replay (cluster_after g n e.1) (take m es) ≡ cluster_replay (cluster_after g e.0 e.1) (take m es) = ap (λ (x : ℕ). cluster_replay (cluster_after g x e.1) (take m es)) (sym counts.0) in
      record {
        last = after.last;
        run = subst (λ (ls : List (ℕ × Line)). Run (set f) w (take (suc m) ls) after.last) (sym merged.3) (place_below_next b, taken.fits, taken.fine, after.run);
        agrees = subst (Agrees (set f) after.last) same after.agrees;
        tells = subst (TellAlike (set f) after.last) same after.tells;
      }

  -- the same from the beginning
  pub merged_runs : (es : List Numbered) (lines : List (ℕ × Line)) → AllGo (set f) f.conduct (new_cluster f.config f.conduct) es → Counts 0 es → Merged (set f) (Some (start_world (set f))) 0 (map (λ p. p.1) es) lines
      → (m : ℕ) → Reaches (set f) (start_world (set f)) (take m lines) (cluster_replay (new_cluster f.config f.conduct) (take m es))
  merged_runs es lines go counts merged m = along es lines start_stands go counts merged m
