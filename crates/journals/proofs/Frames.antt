-- A cluster whose nodes and clients go by a frame: what stays fixed about them, step by step.
use Rattle.std.proofs.Common.{◌≡◌, ℕ, ◌+◌, Bool, true, false, Option, refl, sym, ◌∙◌}
use Rattle.std.specs.declared.option.Option.TheVariants.{None, Some}
use Rattle.std.proofs.lemmas.List.{length-replicate}
use Rattle.quorum_rules.specs.Limits.{Numbers}
use Rattle.protocol.specs.Messages.{Message}
use Rattle.protocol.specs.Setting.{Setting}
use Rattle.protocol.specs.Operations.{Task}
use Rattle.protocol.specs.World.{World, under_way}
use Rattle.protocol.specs.Lines.{Line, FitsLine, fault, plays}
use Rattle.protocol.specs.Instance.{setting_of, IsCluster}
use Rattle.protocol.specs.Seen.{Hearing}
use Rattle.protocol.specs.Seen.Hearing.{Ignored, Counted, Begins, Ended as Ends}
use Rattle.protocol.specs.Facts.{IsWorking}
use Rattle.operation_core.specs.Clients.{ClientView, hears}
use Rattle.journals.specs.Acts.{NodeState, after}
use Rattle.journals.specs.Desks.{DeskState, DeskAct, by_hearing, desk_told, desk_after}
use Rattle.journals.specs.declared.desk.DeskAct.TheVariants.{Start, Crash, Call}
use Rattle.journals.specs.Steps.{Step, Cluster, Conduct, IsConduct, is_lying, side, called, new_cluster, cluster_after}
use Rattle.journals.specs.Steps.Step.{AtNode, AtDesk}
use Rattle.journals.specs.Agreement.{Agrees, TellAlike}
use Rattle.journals.proofs.Cited.{Laws}
use Rattle.journals.proofs.lemmas.Lists.{at_update}
use Rattle.journals.proofs.lemmas.Acting.{IsOf, after_is_of, after_lasts}

-- a cluster with its liars, and how its nodes behave
pub record Frame : Type 0 where
  pub config : Numbers
  pub nodes : ℕ → Bool
  pub clients : ℕ → Bool
  pub conduct : Conduct

abbrev pub set : Frame → Setting
set f = setting_of f.config f.nodes f.clients

-- the client is that of this number in this cluster
pub record IsFor (config : Numbers) (c : ℕ) (client : ClientView) : Type 0 where
  pub cluster : client.config ≡ config
  pub number : client.id ≡ c

heard_is_for : (config : Numbers) (c : ℕ) (client : ClientView) (h : Hearing) → IsFor config c client → IsFor config c (by_hearing client h)
heard_is_for config c client Ignored k = k
heard_is_for config c client (Counted t) k = record { cluster = k.cluster; number = k.number }
heard_is_for config c client (Begins t) k = record { cluster = k.cluster; number = k.number }
heard_is_for config c client (Ends outcome) k = record { cluster = k.cluster; number = k.number }

told_is_for : (config : Numbers) (c n : ℕ) (d : DeskState) (o : Option Message) → IsFor config c d.client → IsFor config c (desk_told d n o).client
told_is_for config c n d None k = k
told_is_for config c n d (Some m) k = heard_is_for config c d.client (hears d.client d.client.seen.task m) k

pub desk_is_for : (config : Numbers) (c n : ℕ) (d : DeskState) (act : DeskAct) → IsFor config c d.client → IsFor config c (desk_after d n act).client
desk_is_for config c n d (Start op) k = record { cluster = k.cluster; number = k.number }
desk_is_for config c n d Crash k = k
desk_is_for config c n d (Call way ask reply) k = told_is_for config c n d reply k

-- each node and client is the one of its number, and liars don't crash
pub record AreOf (f : Frame) (g : Cluster) : Type 0 where
  pub nodes : (i : ℕ) → IsOf f.config i (g.nodes i).node
  pub lasting : (i : ℕ) → f.nodes i ≡ true → (g.nodes i).crash_after ≡ None
  pub desks : (c : ℕ) → IsFor f.config c (g.desks c).client

module _ (f : Frame) where
  pub start_of : IsConduct f.nodes f.conduct → AreOf f (new_cluster f.config f.conduct)
  start_of behave = record {
    nodes = λ i. record { config = refl; number = refl; count = length-replicate f.config.blocks _ };
    lasting = behave.lasting;
    desks = λ c. record { cluster = refl; number = refl };
  }

  called_for : (g : Cluster) → AreOf f g → (n : ℕ) (o : Option (ℕ × DeskAct)) (c : ℕ) → IsFor f.config c (called g.desks n o c).client
  called_for g h n None c = h.desks c
  called_for g h n (Some p) c = at_update (λ (x : ℕ) (d : DeskState). IsFor f.config x d.client) g.desks p.0 (desk_after (g.desks p.0) n p.1) c
      (λ _. desk_is_for f.config p.0 n (g.desks p.0) p.1 (h.desks p.0)) (λ _. h.desks c)

  pub step_of : (g : Cluster) → AreOf f g → (n : ℕ) (e : Step) → AreOf f (cluster_after g n e)
  step_of g h n (AtNode i act) = record {
    nodes = λ k. at_update (λ (x : ℕ) (d : NodeState). IsOf f.config x d.node) g.nodes i (after (g.nodes i) act) k (λ _. after_is_of f.config i (g.nodes i) act (h.nodes i)) (λ _. h.nodes k);
    lasting = λ k. at_update (λ (x : ℕ) (d : NodeState). f.nodes x ≡ true → d.crash_after ≡ None) g.nodes i (after (g.nodes i) act) k
        (λ _ lying. after_lasts (g.nodes i) act (h.lasting i lying)) (λ _. h.lasting k);
    desks = called_for g h n (side act);
  }
  step_of g h n (AtDesk c act) = record {
    nodes = h.nodes;
    lasting = h.lasting;
    desks = called_for g h n (Some (c, act));
  }

-- a world of a run and the cluster that agrees with it, before the line of number n
pub record Before (f : Frame) (w : World) (g : Cluster) (n : ℕ) : Type 0 where
  pub laws : Laws
  pub cluster : IsCluster f.config f.nodes
  pub behave : IsConduct f.nodes f.conduct
  pub works : (c : ℕ) (task : Task) → under_way w c ≡ Some task → IsWorking (set f) w c task
  pub fixed : AreOf f g
  pub agrees : Agrees (set f) w g
  pub tells : TellAlike (set f) w g
  pub at : w.place ≡ n

-- the line may be taken then, and the world after it agrees with the next cluster
pub record Taken (f : Frame) (w : World) (n : ℕ) (line : Line) (next : Cluster) : Type 0 where
  pub fits : FitsLine (set f) line
  pub fine : fault (set f) w line ≡ None
  pub agrees : Agrees (set f) (plays (set f) w (n + 1) line) next

-- who doesn't lie by nature isn't declared lying
pub honest_by : (f : Frame) → IsConduct f.nodes f.conduct → (i : ℕ) → is_lying (f.conduct.nature i) ≡ false → f.nodes i ≡ false
honest_by f behave i h = sym (behave.natures i) ∙ h

pub lying_by : (f : Frame) → IsConduct f.nodes f.conduct → (i : ℕ) → is_lying (f.conduct.nature i) ≡ true → f.nodes i ≡ true
lying_by f behave i h = sym (behave.natures i) ∙ h
