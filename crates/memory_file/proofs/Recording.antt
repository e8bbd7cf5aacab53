-- How a file goes on by its steps.
use Rattle.std.proofs.Common.{◌≡◌, inl, inr, ℕ, ◌+◌, ◌-◌, ◌<◌, ◌≤◌, List, [], ◌∷◌, ◌++◌, length, take, refl, sym, ◌∙◌, ap, subst, arith, length-append}
use Rattle.std.specs.Prelude.{replicate}
use Rattle.std.proofs.lemmas.Bool.{cases_lt}
use Rattle.std.proofs.lemmas.List.{take-append-le, take_all, length-replicate}
use Rattle.sqlite_disk.specs.Disk.{Torn, Holds, Follows, Only}
use Rattle.slab_file.specs.Moments.{Elapses}
use Rattle.memory_file.specs.declared.step.Step.{Step}
use Rattle.memory_file.specs.declared.step.Step.TheVariants.{Wrote, Lengthened, Synced}
use Rattle.memory_file.specs.Steps.{seen_after, Tears, LeftAfter, replayed, LeftBy, Recorded, seen_of, moment_of, LeftAt, Leaves, LeftSince, WroteSome}
use Rattle.memory_file.specs.Laws.{torn_put, torn_longer, seen_stays}
use Rattle.memory_file.proofs.Pieces.{torn_wider, torn_itself, holds_put}

-- one step more
pub replayed_more : (b : List ℕ) (ss : List Step) (s : Step) → replayed b (ss ++ s ∷ []) ≡ seen_after s (replayed b ss)
replayed_more b [] s = refl
replayed_more b (x ∷ ss) s = replayed_more (seen_after x b) ss s

pub left_more : (b : List ℕ) (P : List ℕ → Type 0) (ss : List Step) (s : Step) (c : List ℕ) → LeftBy b P (ss ++ s ∷ []) c → LeftAfter s (replayed b ss) (LeftBy b P ss) c
left_more b P [] s c h = h
left_more b P (x ∷ ss) s c h = left_more (seen_after x b) (LeftAfter x b P) ss s c h

pub more_left : (b : List ℕ) (P : List ℕ → Type 0) (ss : List Step) (s : Step) (c : List ℕ) → LeftAfter s (replayed b ss) (LeftBy b P ss) c → LeftBy b P (ss ++ s ∷ []) c
more_left b P [] s c h = h
more_left b P (x ∷ ss) s c h = more_left (seen_after x b) (LeftAfter x b P) ss s c h

same_at : (old new : Recorded) (n : ℕ) (c : List ℕ) → new.first ≡ old.first → take n new.steps ≡ take n old.steps → LeftAt old n c → LeftAt new n c
same_at old new n c first steps left =
    subst (λ (b : List ℕ). LeftBy b (λ d. d ≡ b) (take n new.steps) c) (sym first)
    (subst (λ (ss : List Step). LeftBy old.first (λ d. d ≡ old.first) ss c) (sym steps) left)

-- a call that does no step
pub stands_still : (old new : Recorded) → new.first ≡ old.first → new.steps ≡ old.steps → Elapses moment_of LeftSince Leaves old new
stands_still old new first steps = record {
  later = omega (arith, ap length steps);
  nothing_else = λ t c le left. inl (left.0, left.1, omega (arith, ap length steps, left.2), same_at new old left.0 c (sym first) (ap (take left.0) (sym steps)) left.3);
  remembers = λ t c le left. (left.0, left.1, omega (arith, ap length steps, left.2), same_at old new left.0 c first (ap (take left.0) steps) left.3);
}

pub same_seen : (old new : Recorded) → new.first ≡ old.first → new.steps ≡ old.steps → seen_of new ≡ seen_of old
same_seen old new first steps i = replayed (first i) (steps i)

pub no_more : (old new : Recorded) → new.first ≡ old.first → new.steps ≡ old.steps → (c : List ℕ) → Leaves new c → Leaves old c
no_more old new first steps c left =
    subst (λ (b : List ℕ). LeftBy b (λ d. d ≡ b) old.steps c) first
    (subst (λ (ss : List Step). LeftBy new.first (λ d. d ≡ new.first) ss c) steps left)

-- a call that does one
module _ (old new : Recorded) (s : Step) (first : new.first ≡ old.first) (steps : new.steps ≡ old.steps ++ s ∷ []) where
  long : length new.steps ≡ length old.steps + 1
  long = ap length steps ∙ length-append old.steps (s ∷ [])

  front : (n : ℕ) → n ≤ length old.steps → take n new.steps ≡ take n old.steps
  front n le = ap (take n) steps ∙ take-append-le n old.steps (s ∷ []) le

  pub goes_on : Elapses moment_of LeftSince Leaves old new
  goes_on = record {
    later = omega (arith, long);
    nothing_else = λ t c le left. elim (cases_lt left.0 (length old.steps + 1)) [
      | inl lt ↦ inl (left.0, left.1, omega (arith, lt), same_at new old left.0 c (sym first) (sym (front left.0 (omega (arith, lt)))) left.3)
      | inr ge ↦ inr (
          let all : take left.0 new.steps ≡ new.steps = take_all left.0 new.steps (omega (arith, ge, long)) in
          subst (λ (ss : List Step). LeftBy new.first (λ b. b ≡ new.first) ss c) all left.3)
    ];
    remembers = λ t c le left. (left.0, left.1, omega (arith, long, left.2), same_at old new left.0 c first (front left.0 left.2) left.3);
  }

  pub seen_then : seen_of new ≡ seen_after s (seen_of old)
  seen_then = (λ i. replayed (first i) (steps i)) ∙ replayed_more old.first old.steps s

  pub left_then : (c : List ℕ) → Leaves new c → LeftAfter s (seen_of old) (Leaves old) c
  left_then c left =
      left_more old.first (λ b. b ≡ old.first) old.steps s c
      (subst (λ (b : List ℕ). LeftBy b (λ d. d ≡ b) (old.steps ++ s ∷ []) c) first
      (subst (λ (ss : List Step). LeftBy new.first (λ d. d ≡ new.first) ss c) steps left))

-- a write, or a part of it
some_torn_by : (old new : Recorded) (at n : ℕ) (part : List ℕ) → length part ≤ n → new.first ≡ old.first → new.steps ≡ old.steps ++ Wrote at part ∷ [] → Torn at n (seen_of old) (seen_of new)
some_torn_by old new at n part le first steps =
    subst (λ (b : List ℕ). Torn at n (seen_of old) b) (sym (seen_then old new (Wrote at part) first steps))
    (torn_wider (seen_of old) _ at (length part) n le (torn_put (seen_of old) at part))

module _ (old new : Recorded) (at n : ℕ) (w : WroteSome at n old new) where
  pub some_elapses : Elapses moment_of LeftSince Leaves old new
  some_elapses = elim w.steps [
    | inl none ↦ stands_still old new w.first none
    | inr some ↦ goes_on old new (Wrote at some.0) w.first some.2
  ]

  pub some_torn : Torn at n (seen_of old) (seen_of new)
  some_torn = elim w.steps [
    | inl none ↦ subst (λ (b : List ℕ). Torn at n (seen_of old) b) (sym (same_seen old new w.first none)) (torn_itself (seen_of old) at n)
    | inr some ↦ some_torn_by old new at n some.0 some.1 w.first some.2
  ]

  pub some_follows : Follows (Torn at n) (Leaves old) (Leaves new)
  some_follows c left = elim w.steps [
    | inl none ↦ (c, no_more old new w.first none c left, torn_itself c at n)
    | inr some ↦ (
        let b = left_then old new (Wrote at some.0) w.first some.2 c left in
        (b.0, b.1, torn_wider b.0 c at (length some.0) n some.1 b.2))
  ]

-- and then a fault was counted
pub some_then : (old mid new : Recorded) (at m n : ℕ) → WroteSome at m old mid → m ≤ n → new.first ≡ mid.first → new.steps ≡ mid.steps → new.usable ≡ mid.usable → WroteSome at n old new
some_then old mid new at m n w le first steps usable = record {
  first = first ∙ w.first;
  usable = usable ∙ w.usable;
  steps = elim w.steps [
    | inl none ↦ inl (steps ∙ none)
    | inr some ↦ inr (some.0, omega (arith, some.1, le), steps ∙ some.2)
  ];
}

pub written_holds : (old new : Recorded) (at n : ℕ) (piece : List ℕ) → WroteSome at n old new → new.steps ≡ old.steps ++ Wrote at piece ∷ [] → at + length piece ≤ length (seen_of old) → Holds (seen_of new) at piece
written_holds old new at n piece w steps fits =
    subst (λ (b : List ℕ). Holds b at piece) (sym (seen_then old new (Wrote at piece) w.first steps)) (holds_put (seen_of old) at piece fits)

-- a lengthening
module _ (old new : Recorded) (len : ℕ) (first : new.first ≡ old.first) (steps : new.steps ≡ old.steps ++ Lengthened len ∷ []) where
  pub longer_elapses : Elapses moment_of LeftSince Leaves old new
  longer_elapses = goes_on old new (Lengthened len) first steps

  pub longer_torn : Torn len 0 (seen_of old) (seen_of new)
  longer_torn = subst (λ (b : List ℕ). Torn len 0 (seen_of old) b) (sym (seen_then old new (Lengthened len) first steps)) (torn_longer (seen_of old) len)

  pub longer_follows : Follows (Torn len 0) (Leaves old) (Leaves new)
  longer_follows c left = left_then old new (Lengthened len) first steps c left

  pub longer_long : len ≤ length (seen_of new)
  longer_long =
      let more : List ℕ = replicate (len - length (seen_of old)) 0 in
      omega (arith, ap length (seen_then old new (Lengthened len) first steps), length-append (seen_of old) more, length-replicate {A = ℕ} (len - length (seen_of old)) 0)

-- a sync
module _ (old new : Recorded) (first : new.first ≡ old.first) (steps : new.steps ≡ old.steps ++ Synced ∷ []) where
  pub synced_elapses : Elapses moment_of LeftSince Leaves old new
  synced_elapses = goes_on old new Synced first steps

  pub synced_seen : seen_of new ≡ seen_of old
  synced_seen = seen_then old new Synced first steps

  pub synced_only : Only (seen_of old) (Leaves new)
  synced_only c left = (left_then old new Synced first steps c left).2

  pub synced_crash : (c : List ℕ) → Leaves new c → Leaves old c
  synced_crash c left = subst (λ (b : List ℕ). Leaves old b) (sym (synced_only c left)) (seen_stays old)

-- one step of a replay
pub left_step : (first : List ℕ) (ss : List Step) (s : Step) (seen left left_then : List ℕ) → seen ≡ replayed first ss → LeftBy first (λ b. b ≡ first) ss left → Tears s seen left left_then
    → LeftBy first (λ b. b ≡ first) (ss ++ s ∷ []) left_then
left_step first ss s seen left left_then is was tears =
    more_left first (λ b. b ≡ first) ss s left_then (left, was, subst (λ (b : List ℕ). Tears s b left left_then) is tears)
