-- The lines of journals of a run in threads are a run, whose worlds agree with the journals; and there is just one list of them.
use Rattle.std.proofs.Common.{◌≡◌, ℕ, zero, suc, ◌+◌, ◌<◌, ◌≤◌, List, [], ◌∷◌, map, take, drop, length, Option, refl, sym, ◌∙◌, ap, subst, inl, inr, arith}
use Rattle.std.specs.declared.option.Option.TheVariants.{None, Some}
use Rattle.std.specs.List.{Contains, AllByRecursion}
use Rattle.std.proofs.lemmas.List.{take-append-drop}
use Rattle.wire_forms.specs.Liars.{has_number}
use Rattle.protocol.specs.Messages.{Message}
use Rattle.protocol.specs.Setting.{Setting}
use Rattle.protocol.specs.World.{World, start_world}
use Rattle.protocol.specs.Lines.{Line, Run, plays}
use Rattle.journals.specs.Desks.{DeskState, new_desk, desk_after_all}
use Rattle.journals.specs.Steps.{Step, Cluster, Conduct, new_cluster, cluster_replay}
use Rattle.journals.specs.Steps.Step.{AtNode, AtDesk}
use Rattle.journals.specs.Merging.{line_of, late_ask, IsFirst, IsNumber, next_world, Merged}
use Rattle.journals.specs.Agreement.{Reaches, ended_record}
use Rattle.journals.specs.Journals.{Journals, setting_for, cluster_at, AreOfRun, IsMerge}
use Rattle.journals.specs.Merged.{OfMerged, AllReach, AreRun, AreNumbered, AreShown, AllRecorded, AreOnce, AreOrdered}
use Rattle.journals.proofs.Cited.{Laws}
use Rattle.journals.proofs.lemmas.Picks.{Numbered, Counts, counts_split, same_ascending}
use Rattle.journals.proofs.lemmas.Ordering.{counts_of, in_order}
use Rattle.journals.proofs.Frames.{Frame}
use Rattle.journals.proofs.lemmas.Projections.{desks_of, desk_part_is, cluster_is, all_go}
use Rattle.journals.proofs.Induction.{merged_runs}
use Rattle.lists.proofs.lemmas.Members.{Contains-head, Contains-none, Contains-rest, Contains-cons_cases}

-- the frame of journals
abbrev pub frame : Conduct → Journals → Frame
frame conduct j = record { config = j.config; nodes = has_number j.liars.nodes; clients = has_number j.liars.clients; conduct = conduct }

take_beyond : {A : Type 0} (xs : List A) (n : ℕ) → length xs ≤ n → take n xs ≡ xs
take_beyond [] zero l = refl
take_beyond [] (suc n) l = refl
take_beyond (x ∷ xs) zero l = absurd (omega (arith, l))
take_beyond (x ∷ xs) (suc n) l = ap (λ l. x ∷ l) (take_beyond xs n (omega (arith, l)))

-- a run has one last world
pub last_once : (s : Setting) (lines : List (ℕ × Line)) (w a b : World) → Run s w lines a → Run s w lines b → a ≡ b
last_once s [] w a b h k = h ∙ sym k
last_once s (l ∷ ls) w a b h k = last_once s ls (plays s w l.0 l.1) a b h.3 k.3

module _ (laws : Laws) (conduct : Conduct) (j : Journals) (lines : List (ℕ × Line)) (of_run : AreOfRun conduct j) (merge : IsMerge j lines) where
  -- what the induction gives of these lines
  reached : (n : ℕ) → Reaches (setting_for j) (start_world (setting_for j)) (take n lines) (cluster_replay (new_cluster j.config conduct) (take n merge.0))
  reached n =
      merged_runs laws (frame conduct j) of_run.cluster of_run.kept.behave merge.0 lines (all_go conduct j of_run.kept of_run.pairs of_run.follow merge.0 merge.1 [] merge.0 refl)
      (counts_of j of_run.drawn of_run.numbers merge.0 merge.1) merge.2 n

  zero_plus : (n : ℕ) → 0 + n ≡ n
  zero_plus n = omega arith

  cluster_there : (n : ℕ) → cluster_replay (new_cluster j.config conduct) (take n merge.0) ≡ cluster_at conduct j n
  cluster_there n =
      let parts = counts_split 0 n merge.0 (counts_of j of_run.drawn of_run.numbers merge.0 merge.1) in
      cluster_is conduct j of_run.kept of_run.pairs of_run.follow merge.0 merge.1 n (take n merge.0) (drop n merge.0) (take-append-drop n merge.0)
      (subst (λ (k : ℕ). AllByRecursion (λ p. p.0 < k) (take n merge.0)) (zero_plus n) parts.0) (subst (λ (k : ℕ). AllByRecursion (λ p. k ≤ p.0) (drop n merge.0)) (zero_plus n) parts.1)

  pub all_reach : AllReach conduct j lines
  all_reach n = subst (λ (g : Cluster). Reaches (setting_for j) (start_world (setting_for j)) (take n lines) g) (cluster_there n) (reached n)

  -- so many lines are all of them, and so many steps too
  whole : Reaches (setting_for j) (start_world (setting_for j)) lines (cluster_replay (new_cluster j.config conduct) merge.0)
  whole =
      let n = length lines + length merge.0 in
      subst (λ (es : List Numbered). Reaches (setting_for j) (start_world (setting_for j)) lines (cluster_replay (new_cluster j.config conduct) es)) (take_beyond merge.0 n (omega arith))
      (subst (λ (ls : List (ℕ × Line)). Reaches (setting_for j) (start_world (setting_for j)) ls (cluster_replay (new_cluster j.config conduct) (take n merge.0))) (take_beyond lines n (omega arith)) (reached n))

  pub are_run : AreRun conduct j lines
  are_run = (whole.last, whole.run)

  pub all_recorded : AllRecorded conduct j lines
  all_recorded w c x run right there =
      let r = whole in
      let same : r.last ≡ w = last_once (setting_for j) lines (start_world (setting_for j)) r.last w r.run run in
      let desk = desks_of merge.0 (new_cluster j.config conduct) c ∙ ap (desk_after_all (new_desk j.config c)) (desk_part_is j merge.0 merge.1 of_run.pairs c (of_run.kept.desks c).ascends) in
      subst (λ (v : World). Contains v.records (ended_record c x)) same (r.tells.ended (ended_record c x) (record {
        client = c;
        correct = right;
        operation = x;
        there = subst (λ (d : DeskState). Contains d.ended x) (sym desk) there;
        is = refl;
      }))

-- ---- each entry has its line

numbered_from : (s : Setting) (es : List Numbered) (w : Option World) (place : ℕ) (lines : List (ℕ × Line)) → Counts place es → Merged s w place (map (λ p. p.1) es) lines
    → (n : ℕ) (e : Step) → Contains es (n, e) → (k : ℕ) × Contains lines (n + 1, line_of s k e)
numbered_from s [] w place lines counts merged n e there = absurd (Contains-none (n, e) there)
numbered_from s (x ∷ es) w place lines counts merged n e there =
    let rest = numbered_from s es (next_world s w (place + 1) (line_of s merged.0 x.1)) (place + 1) merged.1 counts.1 merged.4 n e in
    elim (Contains-cons_cases (n, e) x es there) [
      | inl is ↦ (
        merged.0,
        subst (λ (ls : List (ℕ × Line)). Contains ls (n + 1, line_of s merged.0 e)) (sym merged.3)
            (subst (λ (l : ℕ × Line). Contains ((place + 1, line_of s merged.0 x.1) ∷ merged.1) l)
            (ap (λ (m : ℕ). (m + 1, line_of s merged.0 x.1)) (sym counts.0) ∙ ap (λ (y : Numbered). (y.0 + 1, line_of s merged.0 y.1)) (sym is)) (Contains-head (place + 1, line_of s merged.0 x.1) merged.1)),
      )
      | inr later ↦ (let q = rest later in (q.0, subst (λ (ls : List (ℕ × Line)). Contains ls (n + 1, line_of s q.0 e)) (sym merged.3) (Contains-rest (n + 1, line_of s q.0 e) (place + 1, line_of s merged.0 x.1) merged.1 q.1)))
    ]

pub are_numbered : OfMerged AreNumbered
are_numbered conduct j lines of_run merge n e there =
    numbered_from (setting_for j) merge.0 (Some (start_world (setting_for j))) 0 lines (counts_of j of_run.drawn of_run.numbers merge.0 merge.1) merge.2 n e ((merge.1.entries (n, e)).1 there)

pub are_shown : OfMerged AreShown
are_shown conduct j lines of_run merge c x there = elim (of_run.pairs.answered c x there) [
  | inl own ↦ (let q = are_numbered conduct j lines of_run merge x.number (AtDesk c x.act) (own, there) in (AtDesk c x.act, inl refl, q.0, q.1))
  | inr other ↦ (let q = are_numbered conduct j lines of_run merge x.number (AtNode other.0 other.1) other.2 in (AtNode other.0 other.1, inr (other.0, other.1, refl, other.3), q.0, q.1))
]

pub are_ordered : AreOrdered
are_ordered conduct j of_run = let q = in_order j of_run.drawn of_run.numbers in (q.0, q.1)

-- ---- the lines are determined

first_once : (pool : List Message) (ask : Message) (k l : ℕ) → IsFirst pool ask k → IsFirst pool ask l → k ≡ l
first_once pool ask k l (inl a) (inl b) = let p = a.1 l b.0 in let q = b.1 k a.0 in omega (arith, p, q)
first_once pool ask k l (inl a) (inr b) = absurd (b.0 k a.0)
first_once pool ask k l (inr a) (inl b) = absurd (a.0 l b.0)
first_once pool ask k l (inr a) (inr b) = a.1 ∙ sym b.1

number_once : (w : Option World) (ask : Option Message) (k l : ℕ) → IsNumber w ask k → IsNumber w ask l → k ≡ l
number_once w None k l a b = a ∙ sym b
number_once None (Some ask) k l a b = a ∙ sym b
number_once (Some w) (Some ask) k l a b = first_once w.pool ask k l a b

lines_once : (s : Setting) (es : List Step) (w : Option World) (place : ℕ) (one other : List (ℕ × Line)) → Merged s w place es one → Merged s w place es other → one ≡ other
lines_once s [] w place one other a b = a ∙ sym b
lines_once s (e ∷ es) w place one other a b =
    let same = number_once w (late_ask e) a.0 b.0 a.2 b.2 in
    let there : Merged s (next_world s w (place + 1) (line_of s a.0 e)) (place + 1) es b.1 = subst (λ (k : ℕ). Merged s (next_world s w (place + 1) (line_of s k e)) (place + 1) es b.1) (sym same) b.4 in
    let rest = lines_once s es (next_world s w (place + 1) (line_of s a.0 e)) (place + 1) a.1 b.1 a.4 there in
    a.3 ∙ ap (λ (l : List (ℕ × Line)). (place + 1, line_of s a.0 e) ∷ l) rest ∙ ap (λ (k : ℕ). (place + 1, line_of s k e) ∷ b.1) same ∙ sym b.3

pub merge_once : AreOnce
merge_once j one other a b =
    let s = setting_for j in
    let same : a.0 ≡ b.0 = same_ascending (λ (p : Numbered). p.0) a.0 b.0 a.1.ascending b.1.ascending (λ p h. (b.1.entries p).1 ((a.1.entries p).0 h)) (λ p h. (a.1.entries p).1 ((b.1.entries p).0 h)) in
    lines_once s (map (λ p. p.1) a.0) (Some (start_world s)) 0 one other a.2 (subst (λ (es : List Numbered). Merged s (Some (start_world s)) 0 (map (λ p. p.1) es) other) (sym same) b.2)
