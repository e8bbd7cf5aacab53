-- The clients of the last world of a run in threads, each as its whole journal leaves it.
use Rattle.std.proofs.Common.{◌≡◌, ℕ, ◌+◌, ◌<◌, true, false, List, [], ◌∷◌, length, refl, ◌∙◌, ap, subst, inl, inr, arith, ltb}
use Rattle.std.specs.declared.option.Option.TheVariants.{None, Some}
use Rattle.std.specs.List.{Contains}
use Rattle.std.proofs.lemmas.Bool.Decides.{nat_tests}
use Rattle.std.proofs.lemmas.List.{take_all}
use Rattle.protocol.specs.World.{World, start_world}
use Rattle.protocol.specs.Lines.{Line, IsRun}
use Rattle.operation_core.specs.Clients.{hears}
use Rattle.journals.specs.declared.desk.DeskEntry.{DeskEntry}
use Rattle.journals.specs.declared.desk.DeskAct.{DeskAct}
use Rattle.journals.specs.declared.desk.DeskAct.TheVariants.{Start, Crash, Call}
use Rattle.journals.specs.Desks.{DeskState, new_desk, desk_after, desk_after_all}
use Rattle.journals.specs.Steps.{Conduct}
use Rattle.journals.specs.Steps.Step.{AtNode, AtDesk}
use Rattle.journals.specs.declared.whole.Journals.{Journals}
use Rattle.journals.specs.Journals.{setting_for, at_desk, cluster_at, IsMerge, AreOfRun}
use Rattle.journals.specs.Agreement.{IsDesk, TellAlike, Reaches}
use Rattle.journals.specs.Merged.{OfMerged, AllReach}
use Rattle.node_core.proofs.lemmas.Changes.{filter-all}
use Rattle.journals.proofs.lemmas.Law.{last_once}
use Rattle.journals.proofs.lemmas.Effects.{heard_life}

-- a lower number stands before
is_before : (k n : ℕ) → n < k → ltb n k ≡ true
is_before k n l = grind (arith, nat_tests)

-- ---- no act of a desk brings its client back

life_after : (d : DeskState) (n : ℕ) (act : DeskAct) → (desk_after d n act).client.seen.life ≡ d.client.seen.life
life_after d n (Start op) = refl
life_after d n Crash = refl
life_after d n (Call way ask None) = refl
life_after d n (Call way ask (Some m)) = heard_life d.client (hears d.client d.client.seen.task m)

life_all : (es : List DeskEntry) (d : DeskState) → (desk_after_all d es).client.seen.life ≡ d.client.seen.life
life_all [] d = refl
life_all (e ∷ es) d = life_all es (desk_after d e.number e.act) ∙ life_after d e.number e.act

-- ---- the last world

module _ (reach : OfMerged AllReach) (conduct : Conduct) (j : Journals) (lines : List (ℕ × Line)) (w : World) (of_run : AreOfRun conduct j) (merge : IsMerge j lines) (run : IsRun (setting_for j) lines w) where
  -- above all numbers, and no fewer than there are lines
  abbrev pub limit : ℕ
  limit = of_run.drawn + length lines

  whole : Reaches (setting_for j) (start_world (setting_for j)) lines (cluster_at conduct j limit)
  whole =
      subst (λ (ls : List (ℕ × Line)). Reaches (setting_for j) (start_world (setting_for j)) ls (cluster_at conduct j limit)) (take_all limit lines (omega arith))
      (reach conduct j lines of_run merge limit)

  last_is : whole.last ≡ w
  last_is = last_once (setting_for j) lines (start_world (setting_for j)) whole.last w whole.run run

  low : (c : ℕ) (e : DeskEntry) → Contains (at_desk j c) e → e.number < limit
  low c e there =
      let below : e.number < of_run.drawn = elim (of_run.pairs.answered c e there) [
        | inl own ↦ of_run.numbers.below e.number (AtDesk c e.act) (own, there)
        | inr side ↦ of_run.numbers.below e.number (AtNode side.0 side.1) side.2
      ] in
      omega (arith, below)

  -- the client at last
  abbrev pub desk : ℕ → DeskState
  desk c = desk_after_all (new_desk j.config c) (at_desk j c)

  pub desk_is : (c : ℕ) → (cluster_at conduct j limit).desks c ≡ desk c
  desk_is c = ap (desk_after_all (new_desk j.config c)) (filter-all (λ e. ltb e.number limit) (at_desk j c) (λ e there. is_before limit e.number (low c e there)))

  pub desk_agrees : (c : ℕ) → (setting_for j).lying_client c ≡ false → IsDesk (setting_for j) w c (desk c)
  desk_agrees c right =
      subst (λ (d : DeskState). IsDesk (setting_for j) w c d) (desk_is c)
      (subst (λ (v : World). IsDesk (setting_for j) v c ((cluster_at conduct j limit).desks c)) last_is (whole.agrees.desks c right))

  pub first_life : (c : ℕ) → (setting_for j).lying_client c ≡ false → w.life c ≡ 0
  first_life c right = (desk_agrees c right).life ∙ life_all (at_desk j c) (new_desk j.config c)

  pub tells_alike : TellAlike (setting_for j) w (cluster_at conduct j limit)
  tells_alike = subst (λ (v : World). TellAlike (setting_for j) v (cluster_at conduct j limit)) last_is whole.tells
