-- A client is down after a journal exactly where the journal has a crash.
use Rattle.std.proofs.Common.{◌≡◌, ◌⊎◌, ℕ, true, false, List, [], ◌∷◌, Option, refl, sym, ◌∙◌, ap, subst, inl, inr}
use Rattle.std.specs.declared.option.Option.TheVariants.{None, Some}
use Rattle.std.specs.List.{Contains}
use Rattle.protocol.specs.Messages.{Message}
use Rattle.lists.proofs.lemmas.Members.{Contains-head, Contains-none, Contains-rest, Contains-cons_cases}
use Rattle.journals.specs.declared.desk.DeskAct.{DeskAct}
use Rattle.journals.specs.declared.desk.DeskAct.TheVariants.{Start, Crash, Call}
use Rattle.journals.specs.declared.desk.DeskEntry.{DeskEntry}
use Rattle.journals.specs.Desks.{DeskState, desk_told, desk_after, desk_after_all}

-- one of the entries is a crash
abbrev pub CrashesIn : List DeskEntry → Type 0
CrashesIn es = (n : ℕ) × Contains es (record { number = n; act = Crash })

told_same : (d : DeskState) (n : ℕ) (reply : Option Message) → (desk_told d n reply).crashed ≡ d.crashed
told_same d n None = refl
told_same d n (Some m) = refl

stays_down : (d : DeskState) (n : ℕ) (act : DeskAct) → d.crashed ≡ true → (desk_after d n act).crashed ≡ true
stays_down d n (Start op) h = h
stays_down d n Crash h = refl
stays_down d n (Call way ask reply) h = told_same d n reply ∙ h

all_down : (es : List DeskEntry) (d : DeskState) → d.crashed ≡ true → (desk_after_all d es).crashed ≡ true
all_down [] d h = h
all_down (e ∷ es) d h = all_down es (desk_after d e.number e.act) (stays_down d e.number e.act h)

pub down_by : (es : List DeskEntry) (d : DeskState) → CrashesIn es → (desk_after_all d es).crashed ≡ true
down_by [] d (n, there) = absurd (Contains-none (record { number = n; act = Crash }) there)
down_by (e ∷ es) d (n, there) =
    let rest = down_by es (desk_after d e.number e.act) in
    elim (Contains-cons_cases (record { number = n; act = Crash }) e es there) [
      | inl is ↦ all_down es (desk_after d e.number e.act) (ap (λ (x : DeskEntry). (desk_after d x.number x.act).crashed) (sym is))
      | inr later ↦ rest (n, later)
    ]

-- an act after which the client is down is a crash, if it was up before
crash_by : (d : DeskState) (n : ℕ) (act : DeskAct) → d.crashed ≡ false → (act ≡ Crash) ⊎ ((desk_after d n act).crashed ≡ false)
crash_by d n (Start op) h = inr h
crash_by d n Crash h = inl refl
crash_by d n (Call way ask reply) h = inr (told_same d n reply ∙ h)

pub down_has : (es : List DeskEntry) (d : DeskState) → d.crashed ≡ false → (desk_after_all d es).crashed ≡ true → CrashesIn es
down_has [] d up down = absurd (cc)
down_has (e ∷ es) d up down =
    let later = down_has es (desk_after d e.number e.act) in
    elim (crash_by d e.number e.act up) [
      | inl is ↦ (e.number, subst (λ (a : DeskAct). Contains (e ∷ es) (record { number = e.number; act = a })) is (Contains-head e es))
      | inr still ↦ (let rest = later still down in (rest.0, Contains-rest (record { number = rest.0; act = Crash }) e es rest.1))
    ]
