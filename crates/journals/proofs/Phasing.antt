-- Prunes in phases go by what the clients had read.
use Rattle.std.proofs.Common.{◌≡◌, ℕ, ◌<◌, ◌≤◌, Bool, true, false, cond, List, [], ◌∷◌, refl, sym, ◌∙◌, ap, subst, inl, inr, arith, ltb}
use Rattle.std.specs.declared.option.Option.TheVariants.{Some}
use Rattle.std.specs.List.{Contains}
use Rattle.std.proofs.lemmas.Bool.Decides.{nat_tests}
use Rattle.stamp_order.specs.declared.Stamp.{Stamp}
use Rattle.protocol.specs.Seen.{SeenTask}
use Rattle.journals.specs.declared.node.NodeAct.TheVariants.{Answered, Lied, Silent, CrashedAt, Delivered, LateLost, Pruned}
use Rattle.journals.specs.Acts.{NodeAct}
use Rattle.journals.specs.Desks.{DeskEntry, DeskState, new_desk, desk_after_all}
use Rattle.journals.specs.Steps.{Cluster, Conduct, HasGiven, PruneGoes, Prunes}
use Rattle.journals.specs.Journals.{Journals, setting_for, at_node, at_desk, desks_before, cluster_at}
use Rattle.journals.specs.Phases.{Phase, IsWithin, IsAtRest, IsPhase, IsGreatest, ArePhased, PhasesFollow}
use Rattle.lists.proofs.lemmas.Members.{Contains-head, Contains-rest}

-- where no entry has a number between two, as many stand before the one as before the other
same_before : (es : List DeskEntry) (k m : ℕ) → k ≤ m → ((x : DeskEntry) → Contains es x → k ≤ x.number → x.number < m → ⊥) → desks_before m es ≡ desks_before k es
same_before [] k m l h = refl
same_before (e ∷ es) k m l h =
    let rest = same_before es k m l (λ x there. h x (Contains-rest x e es there)) in
    let head = tests e.number (h e (Contains-head e es)) in
    ap (λ (b : Bool). cond b (e ∷ desks_before m es) (desks_before m es)) head ∙ ap (λ (xs : List DeskEntry). cond (ltb e.number k) (e ∷ xs) xs) rest
  where
    tests : (n : ℕ) → (k ≤ n → n < m → ⊥) → ltb n m ≡ ltb n k
    tests n none = at (ltb n k) (ltb n m) refl refl
      where
        at : (a b : Bool) → ltb n k ≡ a → ltb n m ≡ b → b ≡ a
        at true true e f = refl
        at false false e f = refl
        at true false e f = absurd (grind (arith, nat_tests))
        at false true e f = absurd (none (grind (arith, nat_tests)) (grind (arith, nat_tests)))

module _ (conduct : Conduct) (j : Journals) (p : Phase) (phase : IsPhase conduct j p) (n : ℕ) (within : IsWithin p n) where
  same_desk : (c : ℕ) → (cluster_at conduct j n).desks c ≡ (cluster_at conduct j p.close).desks c
  same_desk c = ap (desk_after_all (new_desk j.config c)) (same_before (at_desk j c) p.close n within.0 (λ x there l m. let k = within.1 in phase.still c x there (l, omega (arith, m, k))))

  moved : (from to : Cluster) → ((c : ℕ) → from.desks c ≡ to.desks c) → (block : ℕ) (stamp : Stamp) → HasGiven (setting_for j) from block stamp → HasGiven (setting_for j) to block stamp
  moved from to same block stamp h = record {
    client = h.client;
    correct = h.correct;
    read = h.read;
    there = subst (λ (d : DeskState). Contains d.ended h.read) (same h.client) h.there;
    gives = h.gives;
  }

  busy_at_rest : (d : DeskState) (t : SeenTask) → IsAtRest d → d.crashed ≡ false → d.client.seen.task ≡ Some t → ⊥
  busy_at_rest d t (inl e) up busy = absurd (cc)
  busy_at_rest d t (inr e) up busy = absurd (cc)

  pub goes : (block : ℕ) (stamp : Stamp) → IsGreatest conduct j p.close block stamp → PruneGoes (setting_for j) (cluster_at conduct j n) block stamp
  goes block stamp h = record {
    calm = λ c t right up busy at. busy_at_rest ((cluster_at conduct j n).desks c) t (subst IsAtRest (sym (same_desk c)) (phase.rest c right)) up busy;
    given = moved (cluster_at conduct j p.close) (cluster_at conduct j n) (λ c. sym (same_desk c)) block stamp h.given;
    greatest = λ other x. h.greatest other (moved (cluster_at conduct j n) (cluster_at conduct j p.close) same_desk block other x);
  }

prunes_go : (conduct : Conduct) (j : Journals) (phases : List Phase) → ArePhased conduct j phases → (i n : ℕ) (act : NodeAct) → Contains (at_node j i) (record { number = n; act = act }) → Prunes (setting_for j) (cluster_at conduct j n) act
prunes_go conduct j phases h i n (Pruned block stamp) there = let q = h.prunes i n block stamp there in goes conduct j q.0 (h.phase q.0 q.1) n q.2 block stamp q.3
prunes_go conduct j phases h i n (Answered ask reply) there = tt
prunes_go conduct j phases h i n (Lied ask reply) there = tt
prunes_go conduct j phases h i n (Silent ask why) there = tt
prunes_go conduct j phases h i n (CrashedAt ask late) there = tt
prunes_go conduct j phases h i n (Delivered ask reply) there = tt
prunes_go conduct j phases h i n (LateLost ask) there = tt

pub phases_follow : PhasesFollow
phases_follow conduct j phases clients h = record {
  clients = clients;
  prunes = λ i e there. prunes_go conduct j phases h i e.number e.act there;
}
