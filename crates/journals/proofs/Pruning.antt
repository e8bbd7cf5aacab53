-- What a prune's line needs and leaves.
use Rattle.std.proofs.Common.{◌≡◌, ◌⊎◌, ℕ, ◌+◌, ◌<◌, Bool, true, false, cond, List, Option, refl, sym, ◌∙◌, ap, subst, inl, inr, arith, eqb}
use Rattle.std.specs.declared.option.Option.TheVariants.{None, Some}
use Rattle.std.proofs.lemmas.Bool.Decides.{nat_tests}
use Rattle.quorum_rules.specs.Limits.{Numbers}
use Rattle.stamp_order.specs.declared.Stamp.{Stamp}
use Rattle.run_words.specs.declared.outcome.Outcome.{Outcome}
use Rattle.protocol.specs.Count.{update}
use Rattle.protocol.specs.Messages.{Version}
use Rattle.protocol.specs.Nodes.{pruned}
use Rattle.protocol.specs.Instance.{setting}
use Rattle.protocol.specs.Operations.{Task}
use Rattle.protocol.specs.World.{World, Record, IsQuiet, stamp_given, given_of, pruned_at, greatest_given}
use Rattle.protocol.specs.Facts.{HasGave}
use Rattle.protocol.specs.Lines.{plays}
use Rattle.run_words.specs.declared.line.Line.TheVariants.{Prune}
use Rattle.protocol.specs.Seen.{SeenTask, started_task, task_at}
use Rattle.node_core.specs.Seen.{SeenNode, versions_in, with_versions}
use Rattle.journals.specs.declared.node.NodeAct.TheVariants.{Pruned}
use Rattle.journals.specs.Acts.{after}
use Rattle.journals.specs.Steps.{Cluster, Goes, HasGiven, PruneGoes, cluster_after}
use Rattle.journals.specs.Steps.Step.{AtNode}
use Rattle.journals.specs.Agreement.{IsNode, IsDesk, ended_record}
use Rattle.journals.proofs.lemmas.Lists.{update-other}
use Rattle.journals.proofs.lemmas.Acting.{can_prune_upright}
use Rattle.journals.proofs.Frames.{Frame, set, Before, Taken}
use Rattle.journals.proofs.lemmas.Effects.{versions_there, versions_elsewhere}
use Rattle.journals.proofs.lemmas.Taking.{same_node, same_desk, place_at_most_next, pool_grows, agree_node}
use Rattle.journals.proofs.Answering.{node_here}
use Rattle.protocol.proofs.lemmas.Counting.{update-cases, update-same}
use Rattle.protocol.proofs.lemmas.Sending.{unless_some}

-- a record that gave a stamp has an outcome that gives it
gave_how : (block : ℕ) (r : Record) (stamp : Stamp) → given_of block r ≡ Some stamp → (r.block ≡ block) × (outcome : Outcome) × (r.outcome ≡ Some outcome) × (stamp_given (Some outcome) ≡ Some stamp)
gave_how block r stamp e = at (eqb r.block block) refl e
  where
    with_outcome : (o : Option Outcome) → stamp_given o ≡ Some stamp → (outcome : Outcome) × (o ≡ Some outcome) × (stamp_given (Some outcome) ≡ Some stamp)
    with_outcome None h = absurd (cc)
    with_outcome (Some outcome) h = (outcome, refl, h)

    at : (b : Bool) → eqb r.block block ≡ b → cond b (stamp_given r.outcome) None ≡ Some stamp → (r.block ≡ block) × (outcome : Outcome) × (r.outcome ≡ Some outcome) × (stamp_given (Some outcome) ≡ Some stamp)
    at true t h = let q = with_outcome r.outcome h in (grind (arith, nat_tests), q.0, q.1, q.2)
    at false t h = absurd (cc)

gives_so : (block : ℕ) (r : Record) (outcome : Outcome) (stamp : Stamp) → r.block ≡ block → r.outcome ≡ Some outcome → stamp_given (Some outcome) ≡ Some stamp → given_of block r ≡ Some stamp
gives_so block r outcome stamp e o h = ap (λ (b : Bool). cond b (stamp_given r.outcome) None) (same r.block block e) ∙ ap stamp_given o ∙ h
  where
    same : (x y : ℕ) → x ≡ y → eqb x y ≡ true
    same x y e = grind (arith, nat_tests)

-- an operation under way is the desk's
task_is : (start : ℕ) (o : Option SeenTask) (task : Task) → started_task start o ≡ Some task → (t : SeenTask) × (o ≡ Some t) × (t.block ≡ task.block)
task_is start None task e = absurd (cc)
task_is start (Some t) task e = (t, refl, (let q : task_at start t ≡ task = cc in ap (λ (x : Task). x.block) q))

module _ {f : Frame} {w : World} {g : Cluster} {n : ℕ} (b : Before f w g n) where
  -- the records tell of the stamps that reads gave as the desks do
  pub gave_is : (block : ℕ) (stamp : Stamp) → HasGave w.records block stamp → HasGiven (set f) g block stamp
  gave_is block stamp h =
      let q = gave_how block h.0 stamp h.2 in
      let x = b.tells.told h.0 q.1 h.1 q.2 in
      let same : Some q.1 ≡ Some x.operation.outcome = sym q.2 ∙ ap (λ (r : Record). r.outcome) x.is in
      record {
        client = x.client;
        correct = x.correct;
        read = x.operation;
        there = x.there;
        gives = (sym (ap (λ (r : Record). r.block) x.is) ∙ q.0, ap stamp_given (sym same) ∙ q.3);
      }

  pub given_is : (block : ℕ) (stamp : Stamp) → HasGiven (set f) g block stamp → HasGave w.records block stamp
  given_is block stamp h = (
    ended_record h.client h.read,
    b.tells.ended (ended_record h.client h.read) (record { client = h.client; correct = h.correct; operation = h.read; there = h.there; is = refl }),
    gives_so block (ended_record h.client h.read) h.read.outcome stamp h.gives.0 refl h.gives.1,
  )

  quiet : (block : ℕ) (stamp : Stamp) → PruneGoes (set f) g block stamp → IsQuiet (set f) w block
  quiet block stamp prune c task busy at =
      let right = (b.works c task busy).correct in
      let h = b.agrees.desks c right in
      let q = unless_some (w.client_crashed c) (w.task c) task busy in
      let t = task_is ((g.desks c).began + 1) (g.desks c).client.seen.task task (sym h.task ∙ q.1) in
      prune.calm c t.0 right (sym h.crashed ∙ q.0) t.1 (t.2 ∙ at)

  -- what a prune leaves
  same_rest : (i block : ℕ) (o : Option Stamp) → (j : ℕ) → (j ≡ i → ⊥) → (pruned_at (set f) w (n + 1) i block o).versions j ≡ w.versions j
  same_rest i block None j k = refl
  same_rest i block (Some stamp) j k = update-other w.versions i _ j k

  same_up : (i block : ℕ) (o : Option Stamp) → (pruned_at (set f) w (n + 1) i block o).node_crashed ≡ w.node_crashed
  same_up i block None = refl
  same_up i block (Some stamp) = refl

  same_desks : (i block : ℕ) (o : Option Stamp) (x : ℕ) → f.clients x ≡ false → IsDesk (set f) (pruned_at (set f) w (n + 1) i block o) x (g.desks x)
  same_desks i block None x right = same_desk (set f) w (pruned_at (set f) w (n + 1) i block None) x (g.desks x) refl refl refl refl (b.agrees.desks x right)
  same_desks i block (Some stamp) x right = same_desk (set f) w (pruned_at (set f) w (n + 1) i block (Some stamp)) x (g.desks x) refl refl refl refl (b.agrees.desks x right)

  -- the versions of the pruned block are pruned, and those of the others stay
  pruned_same : (i block : ℕ) (stamp : Stamp) → block < f.config.blocks → IsNode (set f) w i (g.nodes i) → (other : ℕ) → other < f.config.blocks
      → (pruned_at (set f) w (n + 1) i block (Some stamp)).versions i other ≡ versions_in (after (g.nodes i) (Pruned block stamp)).node other
  pruned_same i block stamp l h other m =
      ap (λ (vs : ℕ → List Version). vs other) (update-same w.versions i (update (w.versions i) block (pruned (set f) stamp (w.versions i block)))) ∙ at (update-cases (w.versions i) block (pruned (set f) stamp (w.versions i block)) other)
    where
      node : SeenNode
      node = (g.nodes i).node

      at : ((other ≡ block) × (update (w.versions i) block (pruned (set f) stamp (w.versions i block)) other ≡ pruned (set f) stamp (w.versions i block)))
          ⊎ ((other ≡ block → ⊥) × (update (w.versions i) block (pruned (set f) stamp (w.versions i block)) other ≡ w.versions i other))
          → update (w.versions i) block (pruned (set f) stamp (w.versions i block)) other ≡ versions_in (with_versions node block (pruned (setting node.config) stamp (versions_in node block))) other
      at (inl k) =
          let c = (b.fixed.nodes i).count in
          k.1 ∙ ap (pruned (set f) stamp) (h.versions block l) ∙ ap (λ (x : Numbers). pruned (setting x) stamp (versions_in node block)) (sym (b.fixed.nodes i).config)
          ∙ sym (versions_there node block other (pruned (setting node.config) stamp (versions_in node block)) (omega (arith, l, c)) k.0)
      at (inr k) = k.1 ∙ h.versions other m ∙ sym (versions_elsewhere node block other (pruned (setting node.config) stamp (versions_in node block)) k.0)

  pub prune : (i block : ℕ) (stamp : Stamp) → Goes (set f) f.conduct g (AtNode i (Pruned block stamp)) → Taken f w n (Prune i block) (cluster_after g n (AtNode i (Pruned block stamp)))
  prune i block stamp goes =
      let d = g.nodes i in
      let here = node_here b i (can_prune_upright d (f.conduct.nature i) goes.1.comes.0) in
      let there : block < f.config.blocks = rw ((b.fixed.nodes i).config) at goes.1.comes.1 in
      let greatest : greatest_given block w.records ≡ Some stamp = (b.laws.greatest w.records block stamp).1 (given_is block stamp goes.3.given, (λ other x. goes.3.greatest other (gave_is block other x))) in
      let o = greatest_given block w.records in
      let u = plays (set f) w (n + 1) (Prune i block) in
      let v = pruned_at (set f) w (n + 1) i block o in
      record {
        fits = there;
        fine = b.laws.taken (set f) w (n + 1) (Prune i block) there (tt, (record { later = place_at_most_next b; node = goes.0; honest = here.0; up = here.2; quiet = quiet block stamp goes.3; stamp = stamp; given = greatest }, tt));
        agrees = agree_node b u (pool_grows b (Prune i block)) i (after d (Pruned block stamp)) g.desks
            (λ _. record {
              versions = subst (λ (z : Option Stamp). (other : ℕ) → other < f.config.blocks → (pruned_at (set f) w (n + 1) i block z).versions i other ≡ versions_in (after d (Pruned block stamp)).node other) (sym greatest) (pruned_same i block stamp there here.1);
              crashed = ap (λ (x : ℕ → Bool). x i) (same_up i block o) ∙ (here.1).crashed;
            })
            (λ j other right. same_node (set f) w u j (g.nodes j) (same_rest i block o j other) (ap (λ (x : ℕ → Bool). x j) (same_up i block o)) (b.agrees.nodes j right))
            (λ x right. same_desk (set f) v u x (g.desks x) refl refl refl refl (same_desks i block o x right))
            (λ m right up late. pool_grows b (Prune i block) m (b.agrees.sent i m right up late));
      }
