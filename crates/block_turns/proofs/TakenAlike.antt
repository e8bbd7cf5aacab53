-- A life may be taken as if more had been acknowledged, or nothing been asked, where no turn tells the difference.
use Rattle.std.proofs.Common.{◌≡◌, ◌⊎◌, ℕ, List, [], ◌∷◌, Option, refl, sym, ap, subst, inl, inr}
use Rattle.std.specs.declared.option.Option.TheVariants.{None, Some}
use Rattle.std.specs.List.{Contains}
use Rattle.lists.proofs.lemmas.Members.{Contains-head, Contains-rest, Contains-cons_cases}
use Rattle.protocol.specs.Setting.{Setting}
use Rattle.block_phases.specs.Phases.{Keeps}
use Rattle.block_phases.specs.Executions.{StampedValue}
use Rattle.block_turns.specs.Turns.{Turn, Moment, Standing, with_one, standing_after, stamped_by, turns_of}
use Rattle.block_turns.specs.Turns.Turn.{Did, Left, Pruned, Changed, Gone, Back, Lost, Failed, Renewed}
use Rattle.block_turns.specs.Lives.{Takes, TakesAll}
use Rattle.block_turns.specs.Settled.{Acknowledges, HasOperation, RebuildsNone, SendsNoneAway, AllUntil}

-- what is known, with these in the place of what was acknowledged and asked
abbrev pub with_these : Standing → List StampedValue → Option StampedValue → Standing
with_these b ended asked = record b { ended = ended; asked = asked }

-- the first of these, if there is one, is the first of those
abbrev HaveSameFirst : List StampedValue → List StampedValue → Type 0
HaveSameFirst these those =
    (x : StampedValue) (earlier : List StampedValue) → these ≡ x ∷ earlier → (before : List StampedValue) × (those ≡ x ∷ before)

-- these turns don't tell what was acknowledged and asked from these
pub record AreTakenAlike (b : Standing) (ended : List StampedValue) (asked : Option StampedValue) (turns : List Turn) : Type 0 where
  pub more : (x : StampedValue) → Contains b.ended x → Contains ended x
  pub first : HaveSameFirst b.ended ended ⊎ AllUntil RebuildsNone Acknowledges turns
  pub asks : (asked ≡ b.asked) ⊎ AllUntil SendsNoneAway HasOperation turns

rest_until : {A : Type 0} (Each Last : Turn → Type 0) (turn : Turn) (turns : List Turn) → (Last turn → ⊥)
    → A ⊎ AllUntil Each Last (turn ∷ turns) → A ⊎ AllUntil Each Last turns
rest_until Each Last turn turns none (inl a) = inl a
rest_until Each Last turn turns none (inr (inl last)) = absurd (none last)
rest_until Each Last turn turns none (inr (inr rest)) = inr rest.1

heads : (x y : StampedValue) (xs ys : List StampedValue) → x ∷ xs ≡ y ∷ ys → x ≡ y
heads x y xs ys e = cc

-- what was just acknowledged is the first
just_acknowledged : (o : Option StampedValue) (these those : List StampedValue) (turns : List Turn) (Acknowledged : Type 0)
    → (Acknowledged → (x : StampedValue) × (o ≡ Some x))
    → HaveSameFirst these those ⊎ (Acknowledged ⊎ (Unit {0} × AllUntil RebuildsNone Acknowledges turns))
    → HaveSameFirst (with_one o these) (with_one o those) ⊎ AllUntil RebuildsNone Acknowledges turns
just_acknowledged (Some y) these those turns Acknowledged is h =
    inl (λ x earlier e. (those, ap (λ (z : StampedValue). z ∷ those) (heads y x these earlier e)))
just_acknowledged None these those turns Acknowledged is (inl same) = inl same
just_acknowledged None these those turns Acknowledged is (inr (inl done)) = absurd (let f : None ≡ Some (is done).0 = (is done).1 in cc)
just_acknowledged None these those turns Acknowledged is (inr (inr rest)) = inr rest.1

more_with : (o : Option StampedValue) (these those : List StampedValue) → ((x : StampedValue) → Contains these x → Contains those x)
    → (x : StampedValue) → Contains (with_one o these) x → Contains (with_one o those) x
more_with None these those more x there = more x there
more_with (Some y) these those more x there = elim (Contains-cons_cases x y these there) [
  | inl e ↦ subst (λ (z : StampedValue). Contains (y ∷ those) z) (sym e) (Contains-head y those)
  | inr k ↦ Contains-rest x y those (more x k)
]

module _ (s : Setting) (block : ℕ) where
  -- the later turns may be taken alike
  abbrev Again : Keeps → List Moment → Type 0
  Again new life =
      (b : Standing) (ended : List StampedValue) (asked : Option StampedValue) → AreTakenAlike b ended asked (turns_of life)
      → TakesAll s block b new life → TakesAll s block (with_these b ended asked) new life

  module _ (b : Standing) (old new : Keeps) (ended : List StampedValue) (asked : Option StampedValue) (life : List Moment) where
    abbrev Alike : Turn → Type 0
    Alike turn = AreTakenAlike b ended asked (turn ∷ turns_of life)

    abbrev IsTaken : Turn → Type 0
    IsTaken turn =
        Takes s block (with_these b ended asked) old turn new × TakesAll s block (standing_after (with_these b ended asked) turn) new life

    -- a turn that neither has an operation nor tells the difference
    quiet : (turn : Turn) (b' : Standing) → b'.ended ≡ b.ended → b'.asked ≡ b.asked → (Acknowledges turn → ⊥) → (HasOperation turn → ⊥)
        → Alike turn
        → AreTakenAlike b' ended asked (turns_of life)
    quiet turn b' same_ended same_asked unacknowledged none alike = record {
      more = λ x there. alike.more x (subst (λ (xs : List StampedValue). Contains xs x) same_ended there);
      first = subst (λ (xs : List StampedValue). HaveSameFirst xs ended ⊎ AllUntil RebuildsNone Acknowledges (turns_of life)) (sym same_ended)
          (rest_until RebuildsNone Acknowledges turn (turns_of life) unacknowledged alike.first);
      asks = subst (λ (o : Option StampedValue). (asked ≡ o) ⊎ AllUntil SendsNoneAway HasOperation (turns_of life)) (sym same_asked)
          (rest_until SendsNoneAway HasOperation turn (turns_of life) none alike.asks);
    }

    taken : (turn : Turn) → Alike turn → Takes s block b old turn new → TakesAll s block (standing_after b turn) new life → Again new life
        → IsTaken turn
    taken (Did client work outcome) alike takes rest again = (
      takes,
      again (standing_after b (Did client work outcome)) (with_one (stamped_by work outcome) ended) (stamped_by work outcome)
          (record {
            more = more_with (stamped_by work outcome) b.ended ended alike.more;
            first = just_acknowledged (stamped_by work outcome) b.ended ended (turns_of life) (Acknowledges (Did client work outcome)) (λ done. done) alike.first;
            asks = inl refl;
          }) rest,
    )
    taken (Left client work stored) alike takes rest again = (
      takes,
      again (standing_after b (Left client work stored)) ended stored
          (record {
            more = alike.more;
            first = rest_until RebuildsNone Acknowledges (Left client work stored) (turns_of life) (λ none. none) alike.first;
            asks = inl refl;
          }) rest,
    )
    taken (Pruned stamp) alike takes rest again = (
      (takes.0, alike.more takes.0 takes.1, takes.2, takes.3),
      again b ended asked (quiet (Pruned stamp) b refl refl (λ none. none) (λ none. none) alike) rest,
    )
    taken Changed alike takes rest again = (takes, again b ended asked (quiet Changed b refl refl (λ none. none) (λ none. none) alike) rest)
    taken (Gone node) alike takes rest again = (
      takes,
      elim alike.asks [
        | inl same ↦ subst (λ (o : Option StampedValue). TakesAll s block (standing_after (with_these b ended o) (Gone node)) new life) (sym same)
            (again (standing_after b (Gone node)) ended b.asked
            (record {
              more = alike.more;
              first = rest_until RebuildsNone Acknowledges (Gone node) (turns_of life) (λ none. none) alike.first;
              asks = inl refl;
            }) rest)
        | inr until ↦ elim until [ inl none ↦ absurd none | inr away ↦ absurd away.0 ]
      ],
    )
    taken (Back node) alike takes rest again = (
      takes,
      again (standing_after b (Back node)) ended asked
          (quiet (Back node) (standing_after b (Back node)) refl refl (λ none. none) (λ none. none) alike) rest,
    )
    taken (Lost node) alike takes rest again = (
      takes,
      again (standing_after b (Lost node)) ended asked
          (quiet (Lost node) (standing_after b (Lost node)) refl refl (λ none. none) (λ none. none) alike) rest,
    )
    taken (Failed node) alike takes rest again = (
      takes,
      again (standing_after b (Failed node)) ended asked
          (quiet (Failed node) (standing_after b (Failed node)) refl refl (λ none. none) (λ none. none) alike) rest,
    )
    taken (Renewed node) alike takes rest again = elim alike.first [
      | inl same ↦ (
          let f = same takes.0 takes.1 takes.2 in (
            (takes.0, f.0, f.1, takes.3, takes.4),
            again (standing_after b (Renewed node)) ended asked (quiet (Renewed node) (standing_after b (Renewed node)) refl refl (λ none. none) (λ none. none) alike) rest,
          ))
      | inr until ↦ elim until [ inl none ↦ absurd none | inr rebuilt ↦ absurd rebuilt.0 ]
    ]

  -- the turns that may follow one another may do so alike
  pub all_taken : (life : List Moment) (old : Keeps) (b : Standing) (ended : List StampedValue) (asked : Option StampedValue)
      → AreTakenAlike b ended asked (turns_of life) → TakesAll s block b old life → TakesAll s block (with_these b ended asked) old life
  all_taken [] old b ended asked alike takes = tt
  all_taken (m ∷ life) old b ended asked alike takes =
      taken b old m.kept ended asked life m.turn alike takes.0 takes.1
      (λ b' ended' asked' alike' takes'. all_taken life m.kept b' ended' asked' alike' takes')
