-- Who asked what comes late asked before.
use Rattle.std.proofs.Common.{◌≡◌, ℕ, true, false, List, [], ◌∷◌, ◌++◌, refl, sym, subst, ap, inl, inr}
use Rattle.std.specs.declared.option.Option.TheVariants.{Some}
use Rattle.std.specs.List.{Contains}
use Rattle.protocol.specs.Messages.{Message}
use Rattle.journals.specs.declared.node.NodeAct.TheVariants.{Answered, Lied, Silent, CrashedAt, Delivered, LateLost, Pruned}
use Rattle.journals.specs.declared.node.Silence.{Silence}
use Rattle.journals.specs.declared.node.Silence.TheVariants.{Crashed, Dropped, Held, Lying}
use Rattle.journals.specs.declared.desk.Way.TheVariants.{Hold}
use Rattle.journals.specs.declared.desk.DeskAct.TheVariants.{Call}
use Rattle.journals.specs.declared.node.NodeAct.{NodeAct}
use Rattle.journals.specs.declared.node.NodeEntry.{NodeEntry}
use Rattle.journals.specs.declared.node.Nature.{Nature}
use Rattle.journals.specs.Acts.{NodeState, after, IsAct, NodeKept}
use Rattle.journals.specs.declared.desk.DeskAct.{DeskAct}
use Rattle.journals.specs.Steps.{side}
use Rattle.lists.proofs.lemmas.Members.{Contains-head, Contains-none, Contains-rest, Contains-cons_cases}
use Rattle.journals.proofs.lemmas.Taking.{of_rest}

contains_push : (xs : List Message) (y m : Message) → Contains (xs ++ y ∷ []) m → (P : Message → Type 0) → ((x : Message) → Contains xs x → P x) → P y → P m
contains_push [] y m h P all last = elim (Contains-cons_cases m y [] h) [ inl e ↦ subst P (sym e) last | inr none ↦ absurd (Contains-none m none) ]
contains_push (x ∷ xs) y m h P all last = elim (Contains-cons_cases m x (xs ++ y ∷ []) h) [
  | inl e ↦ subst P (sym e) (all x (Contains-head x xs))
  | inr k ↦ contains_push xs y m k P (λ z q. all z (Contains-rest z x xs q)) last
]

-- the fact holds of who asked for each act that has a caller
abbrev Sides : (ℕ → Type 0) → NodeAct → Type 0
Sides P act = (c : ℕ) (d : DeskAct) → side act ≡ Some (c, d) → P c

module _ (P : ℕ → Type 0) where
  abbrev AllLate : List Message → Type 0
  AllLate late = (m : Message) → Contains late m → P m.client

  held_late : (s : NodeState) (ask : Message) (why : Silence) → Sides P (Silent ask why) → AllLate s.late → AllLate (after s (Silent ask why)).late
  held_late s ask Held sides all m k = contains_push s.late ask m k (λ x. P x.client) all (sides ask.client (Call Hold ask _) refl)
  held_late s ask Crashed sides all m k = all m k
  held_late s ask Dropped sides all m k = all m k
  held_late s ask Lying sides all m k = all m k

  after_late : (s : NodeState) (act : NodeAct) → Sides P act → AllLate s.late → AllLate (after s act).late
  after_late s (Answered ask reply) sides all m k = all m k
  after_late s (Lied ask reply) sides all m k = all m k
  after_late s (Silent ask why) sides all m k = held_late s ask why sides all m k
  after_late s (CrashedAt ask true) sides all m k = all m (of_rest s.late m k)
  after_late s (CrashedAt ask false) sides all m k = all m k
  after_late s (Delivered ask reply) sides all m k = all m (of_rest s.late m k)
  after_late s (LateLost ask) sides all m k = all m (of_rest s.late m k)
  after_late s (Pruned block stamp) sides all m k = all m k

  lost_now : (s : NodeState) (nature : Nature) (ask : Message) (act : NodeAct) → act ≡ LateLost ask → IsAct nature s act → AllLate s.late → P ask.client
  lost_now s nature ask act e is all =
      let late : IsAct nature s (LateLost ask) = subst (λ (a : NodeAct). IsAct nature s a) e is in
      all ask (subst (λ (l : List Message). Contains l ask) (sym late.comes.1.1) (Contains-head ask late.comes.1.0))

  pub late_lost : (nature : Nature) (es : List NodeEntry) (s : NodeState) → NodeKept nature s es → ((x : NodeEntry) → Contains es x → Sides P x.act) → AllLate s.late
      → (n : ℕ) (ask : Message) → Contains es (record { number = n; act = LateLost ask }) → P ask.client
  late_lost nature [] s kept sides all n ask there = absurd (Contains-none _ there)
  late_lost nature (e ∷ es) s kept sides all n ask there = elim (Contains-cons_cases (record { number = n; act = LateLost ask }) e es there) [
    | inl same ↦ lost_now s nature ask e.act (ap (λ (x : NodeEntry). x.act) (sym same)) kept.0 all
    | inr k ↦ late_lost nature es (after s e.act) kept.1 (λ x q. sides x (Contains-rest x e es q)) (after_late s e.act (sides e (Contains-head e es)) all) n ask k
  ]
