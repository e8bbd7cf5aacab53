-- From kept journals that agree to steps that go: each journal can be read off the list of all steps.
use Rattle.std.proofs.Common.{◌≡◌, ◌⊎◌, ℕ, zero, suc, ◌<◌, ◌≤◌, Bool, true, false, cond, List, [], ◌∷◌, ◌++◌, map, length, Option, refl, sym, ◌∙◌, ap, subst, inl, inr, arith, eqb, append_assoc}
use Rattle.std.specs.Prelude.{slice_index_or}
use Rattle.std.specs.declared.option.Option.TheVariants.{None, Some}
use Rattle.std.specs.List.{Contains, AllByRecursion}
use Rattle.std.proofs.lemmas.Bool.Decides.{eqb_tells}
use Rattle.protocol.specs.Count.{update}
use Rattle.protocol.specs.Setting.{Setting}
use Rattle.protocol.specs.Report.{Ascend}
use Rattle.std.proofs.lemmas.List.Elements.{Contains-append_right}
use Rattle.journals.specs.declared.desk.DeskAct.TheVariants.{Start, Crash, Call}
use Rattle.journals.specs.Acts.{NodeAct, NodeEntry, Nature, NodeState, new_state, after, NodeKept, after_all}
use Rattle.journals.specs.Desks.{DeskAct, DeskEntry, DeskState, new_desk, desk_after, ActsAs, DeskKept, desk_after_all}
use Rattle.journals.specs.Steps.{Step, Cluster, Conduct, side, called, IsOwn, new_cluster, cluster_after, cluster_replay, CallGoes, Prunes, Goes, AllGo}
use Rattle.journals.specs.Steps.Step.{AtNode, AtDesk}
use Rattle.journals.specs.Journals.{Journals, setting_for, at_node, at_desk, nodes_before, desks_before, cluster_at, AreKept, HasSide, PairsAgree, Follow, IsEntry, InOrder}
use Rattle.journals.proofs.lemmas.Picks.{Numbered, one_first, picks-append, picked_from, is_picked, ascend_picks, picks_before, same_ascending, node_entry, desk_entry, call_entry, node_part, desk_part, node_entry_is, desk_entry_is, node_entry_own, desk_entry_own, call_entry_own, node_numbered, desk_numbered, split_ascends}
use Rattle.lists.proofs.lemmas.Members.{Contains-head, Contains-none}
use Rattle.protocol.proofs.lemmas.Counting.{update-cases}

-- ---- the list of all steps shows each journal

module _ (j : Journals) (es : List Numbered) (order : InOrder j es) where
  pub node_part_is : (i : ℕ) → Ascend (map (λ e. e.number) (at_node j i)) → node_part i es ≡ at_node j i
  node_part_is i ascends =
      same_ascending (λ (e : NodeEntry). e.number) (node_part i es) (at_node j i) (ascend_picks (λ p. node_entry i p.0 p.1) (λ (e : NodeEntry). e.number) (node_numbered i) es order.ascending) ascends
      (λ x h. let p = picked_from (λ p. node_entry i p.0 p.1) es x h in of_step x p.0 (node_entry_is i p.0.0 p.0.1 x p.2) ((order.entries p.0).0 p.1))
      (λ x h. is_picked (λ p. node_entry i p.0 p.1) es (x.number, AtNode i x.act) x ((order.entries (x.number, AtNode i x.act)).1 h) (node_entry_own i x.number x.act))
    where
      of_step : (x : NodeEntry) (p : Numbered) → (x.number ≡ p.0) × (p.1 ≡ AtNode i x.act) → IsEntry j p.0 p.1 → Contains (at_node j i) x
      of_step x p e h =
          let k : IsEntry j p.0 (AtNode i x.act) = subst (IsEntry j p.0) e.1 h in
          subst (λ (n : ℕ). Contains (at_node j i) (record { number = n; act = x.act })) (sym e.0) k

  pub desk_part_is : PairsAgree j → (c : ℕ) → Ascend (map (λ e. e.number) (at_desk j c)) → desk_part c es ≡ at_desk j c
  desk_part_is pairs c ascends =
      same_ascending (λ (e : DeskEntry). e.number) (desk_part c es) (at_desk j c) (ascend_picks (λ p. desk_entry c p.0 p.1) (λ (e : DeskEntry). e.number) (desk_numbered c) es order.ascending) ascends
      (λ x h. let p = picked_from (λ p. desk_entry c p.0 p.1) es x h in of_step x p.0 (desk_entry_is c p.0.0 p.0.1 x p.2) ((order.entries p.0).0 p.1))
      (λ x h. elim (pairs.answered c x h) [ inl own ↦ is_own x own h | inr other ↦ is_call x other ])
    where
      renumbered : (x : DeskEntry) (n : ℕ) → x.number ≡ n → Contains (at_desk j c) (record { number = n; act = x.act }) → Contains (at_desk j c) x
      renumbered x n e h = subst (λ (k : ℕ). Contains (at_desk j c) (record { number = k; act = x.act })) (sym e) h

      of_step : (x : DeskEntry) (p : Numbered) → (x.number ≡ p.0) × ((p.1 ≡ AtDesk c x.act) ⊎ ((i : ℕ) × (act : NodeAct) × (p.1 ≡ AtNode i act) × (side act ≡ Some (c, x.act)))) → IsEntry j p.0 p.1 → Contains (at_desk j c) x
      of_step x p e h = elim e.1 [
        | inl q ↦ (let k : IsEntry j p.0 (AtDesk c x.act) = subst (IsEntry j p.0) q h in renumbered x p.0 e.0 k.1)
        | inr q ↦ (let k : IsEntry j p.0 (AtNode q.0 q.1) = subst (IsEntry j p.0) q.2 h in renumbered x p.0 e.0 (pairs.called q.0 c (record { number = p.0; act = q.1 }) x.act k q.3))
      ]

      is_own : (x : DeskEntry) → IsOwn x.act → Contains (at_desk j c) x → Contains (desk_part c es) x
      is_own x own h = is_picked (λ p. desk_entry c p.0 p.1) es (x.number, AtDesk c x.act) x ((order.entries (x.number, AtDesk c x.act)).1 (own, h)) (desk_entry_own c x.number x.act)

      is_call : (x : DeskEntry) → HasSide j c x → Contains (desk_part c es) x
      is_call x other =
          is_picked (λ p. desk_entry c p.0 p.1) es (x.number, AtNode other.0 other.1) x ((order.entries (x.number, AtNode other.0 other.1)).1 other.2) (call_entry_own c x.number (side other.1) x.act other.3)

-- ---- the nodes and clients after steps are those after their journals' entries

node_first : (g : Cluster) (i n k : ℕ) (act : NodeAct) (rest : List NodeEntry) → after_all (update g.nodes k (after (g.nodes k) act) i) rest ≡ after_all (g.nodes i) (one_first (node_entry i n (AtNode k act)) rest)
node_first g i n k act rest = elim (eqb_tells k i) [ inl e ↦ own e.0 e.1 (update-cases g.nodes k new i) | inr e ↦ other e.0 e.1 (update-cases g.nodes k new i) ]
  where
    new : NodeState
    new = after (g.nodes k) act

    entry : NodeEntry
    entry = record { number = n; act = act }

    own : eqb k i ≡ true → k ≡ i → ((i ≡ k) × (update g.nodes k new i ≡ new)) ⊎ ((i ≡ k → ⊥) × (update g.nodes k new i ≡ g.nodes i)) → after_all (update g.nodes k new i) rest ≡ after_all (g.nodes i) (one_first (node_entry i n (AtNode k act)) rest)
    own t e (inl u) = ap (λ (d : NodeState). after_all d rest) (u.1 ∙ ap (λ (x : ℕ). after (g.nodes x) act) e) ∙ ap (λ (b : Bool). after_all (g.nodes i) (one_first (cond b (Some entry) None) rest)) (sym t)
    own t e (inr u) = absurd (u.0 (sym e))

    other : eqb k i ≡ false → (k ≡ i → ⊥) → ((i ≡ k) × (update g.nodes k new i ≡ new)) ⊎ ((i ≡ k → ⊥) × (update g.nodes k new i ≡ g.nodes i)) → after_all (update g.nodes k new i) rest ≡ after_all (g.nodes i) (one_first (node_entry i n (AtNode k act)) rest)
    other t m (inl u) = absurd (m (sym u.0))
    other t m (inr u) = ap (λ (d : NodeState). after_all d rest) u.1 ∙ ap (λ (b : Bool). after_all (g.nodes i) (one_first (cond b (Some entry) None) rest)) (sym t)

pub nodes_of : (es : List Numbered) (g : Cluster) (i : ℕ) → (cluster_replay g es).nodes i ≡ after_all (g.nodes i) (node_part i es)
nodes_of [] g i = refl
nodes_of ((n, AtNode k act) ∷ es) g i = nodes_of es (cluster_after g n (AtNode k act)) i ∙ node_first g i n k act (node_part i es)
nodes_of ((n, AtDesk c act) ∷ es) g i = nodes_of es (cluster_after g n (AtDesk c act)) i

desk_first : (f : ℕ → DeskState) (c n d : ℕ) (act : DeskAct) (rest : List DeskEntry) → desk_after_all (update f d (desk_after (f d) n act) c) rest ≡ desk_after_all (f c) (one_first (cond (eqb d c) (Some (record { number = n; act = act })) None) rest)
desk_first f c n d act rest = elim (eqb_tells d c) [ inl e ↦ own e.0 e.1 (update-cases f d new c) | inr e ↦ other e.0 e.1 (update-cases f d new c) ]
  where
    new : DeskState
    new = desk_after (f d) n act

    entry : DeskEntry
    entry = record { number = n; act = act }

    own : eqb d c ≡ true → d ≡ c → ((c ≡ d) × (update f d new c ≡ new)) ⊎ ((c ≡ d → ⊥) × (update f d new c ≡ f c)) → desk_after_all (update f d new c) rest ≡ desk_after_all (f c) (one_first (cond (eqb d c) (Some entry) None) rest)
    own t e (inl u) = ap (λ (x : DeskState). desk_after_all x rest) (u.1 ∙ ap (λ (x : ℕ). desk_after (f x) n act) e) ∙ ap (λ (b : Bool). desk_after_all (f c) (one_first (cond b (Some entry) None) rest)) (sym t)
    own t e (inr u) = absurd (u.0 (sym e))

    other : eqb d c ≡ false → (d ≡ c → ⊥) → ((c ≡ d) × (update f d new c ≡ new)) ⊎ ((c ≡ d → ⊥) × (update f d new c ≡ f c)) → desk_after_all (update f d new c) rest ≡ desk_after_all (f c) (one_first (cond (eqb d c) (Some entry) None) rest)
    other t m (inl u) = absurd (m (sym u.0))
    other t m (inr u) = ap (λ (x : DeskState). desk_after_all x rest) u.1 ∙ ap (λ (b : Bool). desk_after_all (f c) (one_first (cond b (Some entry) None) rest)) (sym t)

call_first : (f : ℕ → DeskState) (c n : ℕ) (o : Option (ℕ × DeskAct)) (rest : List DeskEntry) → desk_after_all (called f n o c) rest ≡ desk_after_all (f c) (one_first (call_entry c n o) rest)
call_first f c n None rest = refl
call_first f c n (Some p) rest = desk_first f c n p.0 p.1 rest

pub desks_of : (es : List Numbered) (g : Cluster) (c : ℕ) → (cluster_replay g es).desks c ≡ desk_after_all (g.desks c) (desk_part c es)
desks_of [] g c = refl
desks_of ((n, AtNode k act) ∷ es) g c = desks_of es (cluster_after g n (AtNode k act)) c ∙ call_first g.desks c n (side act) (desk_part c es)
desks_of ((n, AtDesk d act) ∷ es) g c = desks_of es (cluster_after g n (AtDesk d act)) c ∙ desk_first g.desks c n d act (desk_part c es)

replay_push : (g : Cluster) (ps : List Numbered) (e : Numbered) → cluster_replay g (ps ++ e ∷ []) ≡ cluster_after (cluster_replay g ps) e.0 e.1
replay_push g [] e = refl
replay_push g (p ∷ ps) e = replay_push (cluster_after g p.0 p.1) ps e

node_kept_rest : (nature : Nature) (d : NodeState) (xs ys : List NodeEntry) → NodeKept nature d (xs ++ ys) → NodeKept nature (after_all d xs) ys
node_kept_rest nature d [] ys h = h
node_kept_rest nature d (x ∷ xs) ys h = node_kept_rest nature (after d x.act) xs ys h.1

desk_kept_rest : (lying : Bool) (d : DeskState) (xs ys : List DeskEntry) → DeskKept lying d (xs ++ ys) → DeskKept lying (desk_after_all d xs) ys
desk_kept_rest lying d [] ys h = h
desk_kept_rest lying d (x ∷ xs) ys h = desk_kept_rest lying (desk_after d x.number x.act) xs ys h.1

same_cluster : (a b : Cluster) → ((i : ℕ) → a.nodes i ≡ b.nodes i) → ((c : ℕ) → a.desks c ≡ b.desks c) → a ≡ b
same_cluster a b h k t = record { nodes = λ i. h i t; desks = λ c. k c t }

-- who stands in the list at a place is below the length
pub there_below : (xs : List (List NodeEntry)) (i : ℕ) (x : NodeEntry) → Contains (slice_index_or xs i []) x → i < length xs
there_below [] i x h = absurd (Contains-none x h)
there_below (y ∷ xs) zero x h = omega arith
there_below (y ∷ xs) (suc i) x h = let l = there_below xs i x h in omega (arith, l)

module _ (conduct : Conduct) (j : Journals) (kept : AreKept conduct j) (pairs : PairsAgree j) (follow : Follow conduct j) (es : List Numbered) (order : InOrder j es) where
  -- before any step
  abbrev begins : Cluster
  begins = new_cluster j.config conduct

  abbrev s : Setting
  s = setting_for j

  -- after the steps with numbers below k, nodes and clients are those of the journals there
  pub cluster_is : (k : ℕ) (ps qs : List Numbered) → ps ++ qs ≡ es → AllByRecursion (λ p. p.0 < k) ps → AllByRecursion (λ p. k ≤ p.0) qs → cluster_replay begins ps ≡ cluster_at conduct j k
  cluster_is k ps qs e below above = same_cluster _ _
      (λ i. nodes_of ps begins i ∙ ap (after_all (new_state j.config i (conduct.crash_after i))) (
      sym (picks_before (λ p. node_entry i p.0 p.1) (λ (x : NodeEntry). x.number) (node_numbered i) k ps qs below above)
      ∙ ap (λ (l : List Numbered). nodes_before k (node_part i l)) e ∙ ap (nodes_before k) (node_part_is j es order i (kept.nodes i).ascends)))
      (λ c. desks_of ps begins c ∙ ap (desk_after_all (new_desk j.config c)) (
      sym (picks_before (λ p. desk_entry c p.0 p.1) (λ (x : DeskEntry). x.number) (desk_numbered c) k ps qs below above)
      ∙ ap (λ (l : List Numbered). desks_before k (desk_part c l)) e ∙ ap (desks_before k) (desk_part_is j es order pairs c (kept.desks c).ascends)))

  -- what is left of a journal may follow
  node_left : (i : ℕ) (ps qs : List Numbered) → ps ++ qs ≡ es → NodeKept (conduct.nature i) ((cluster_replay begins ps).nodes i) (node_part i qs)
  node_left i ps qs e =
      let whole : at_node j i ≡ node_part i ps ++ node_part i qs = sym (node_part_is j es order i (kept.nodes i).ascends) ∙ ap (node_part i) (sym e) ∙ picks-append (λ p. node_entry i p.0 p.1) ps qs in
      subst (λ (d : NodeState). NodeKept (conduct.nature i) d (node_part i qs)) (sym (nodes_of ps begins i))
      (node_kept_rest (conduct.nature i) (new_state j.config i (conduct.crash_after i)) (node_part i ps) (node_part i qs) (subst (NodeKept (conduct.nature i) (new_state j.config i (conduct.crash_after i))) whole (kept.nodes i).goes))

  desk_left : (c : ℕ) (ps qs : List Numbered) → ps ++ qs ≡ es → DeskKept (s.lying_client c) ((cluster_replay begins ps).desks c) (desk_part c qs)
  desk_left c ps qs e =
      let whole : at_desk j c ≡ desk_part c ps ++ desk_part c qs = sym (desk_part_is j es order pairs c (kept.desks c).ascends) ∙ ap (desk_part c) (sym e) ∙ picks-append (λ p. desk_entry c p.0 p.1) ps qs in
      subst (λ (d : DeskState). DeskKept (s.lying_client c) d (desk_part c qs)) (sym (desks_of ps begins c))
      (desk_kept_rest (s.lying_client c) (new_desk j.config c) (desk_part c ps) (desk_part c qs) (subst (DeskKept (s.lying_client c) (new_desk j.config c)) whole (kept.desks c).goes))

  -- a desk's next act may be done
  acts_now : (c n : ℕ) (act : DeskAct) (e : Step) (ps qs : List Numbered) → ps ++ (n, e) ∷ qs ≡ es → desk_entry c n e ≡ Some (record { number = n; act = act })
      → ActsAs (s.lying_client c) ((cluster_replay begins ps).desks c) act
  acts_now c n act e ps qs split is =
      (subst (λ (o : Option DeskEntry). DeskKept (s.lying_client c) ((cluster_replay begins ps).desks c) (one_first o (desk_part c qs))) is (desk_left c ps ((n, e) ∷ qs) split)).0

  there_now : (n : ℕ) (e : Step) (ps qs : List Numbered) → ps ++ (n, e) ∷ qs ≡ es → IsEntry j n e
  there_now n e ps qs split = (order.entries (n, e)).0 (subst (λ (l : List Numbered). Contains l (n, e)) split (Contains-append_right ps ((n, e) ∷ qs) (n, e) (Contains-head (n, e) qs)))

  goes_now : (n : ℕ) (e : Step) (ps qs : List Numbered) → ps ++ (n, e) ∷ qs ≡ es → Goes s conduct (cluster_replay begins ps) e
  goes_now n (AtNode i act) ps qs split =
      let there : Contains (at_node j i) (record { number = n; act = act }) = there_now n (AtNode i act) ps qs split in
      let parts = split_ascends ps (n, AtNode i act) qs (subst (λ (l : List Numbered). Ascend (map (λ p. p.0) l)) (sym split) order.ascending) in (
        subst (λ (m : ℕ). i < m) kept.count (there_below j.nodes i (record { number = n; act = act }) there),
        (subst (λ (o : Option NodeEntry). NodeKept (conduct.nature i) ((cluster_replay begins ps).nodes i) (one_first o (node_part i qs))) (node_entry_own i n act) (node_left i ps ((n, AtNode i act) ∷ qs) split)).0,
        calls (side act) refl there,
        subst (λ (g : Cluster). Prunes s g act) (sym (cluster_is n ps ((n, AtNode i act) ∷ qs) split parts.0 parts.1)) (follow.prunes i (record { number = n; act = act }) there),
      )
    where
      calls : (o : Option (ℕ × DeskAct)) → side act ≡ o → Contains (at_node j i) (record { number = n; act = act }) → CallGoes s (cluster_replay begins ps) o
      calls None e there = tt
      calls (Some p) e there = (
        follow.clients p.0 (record { number = n; act = p.1 }) (pairs.called i p.0 (record { number = n; act = act }) p.1 there e),
        acts_now p.0 n p.1 (AtNode i act) ps qs split (call_entry_own p.0 n (side act) p.1 e),
      )
  goes_now n (AtDesk c act) ps qs split =
      let there : IsEntry j n (AtDesk c act) = there_now n (AtDesk c act) ps qs split in
      let acts = acts_now c n act (AtDesk c act) ps qs split (desk_entry_own c n act) in
      (follow.clients c (record { number = n; act = act }) there.1, correct act there.0 (s.lying_client c) refl acts, there.0, acts)
    where
      correct : (a : DeskAct) → IsOwn a → (lying : Bool) → s.lying_client c ≡ lying → ActsAs lying ((cluster_replay begins ps).desks c) a → s.lying_client c ≡ false
      correct a own false e h = e
      correct (Start op) own true e h = absurd h
      correct Crash own true e h = absurd h
      correct (Call way ask reply) own true e h = absurd own

  -- so each step may be taken when its turn comes
  pub all_go : (ps qs : List Numbered) → ps ++ qs ≡ es → AllGo s conduct (cluster_replay begins ps) qs
  all_go ps [] split = tt
  all_go ps (e ∷ qs) split = (
    goes_now e.0 e.1 ps qs split,
    subst (λ (g : Cluster). AllGo s conduct g qs) (replay_push begins ps e) (all_go (ps ++ e ∷ []) qs (append_assoc ps (e ∷ []) qs ∙ split)),
  )
