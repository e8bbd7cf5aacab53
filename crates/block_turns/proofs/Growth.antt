-- How a life begins and goes on, and what a node takes late.
use Rattle.std.proofs.Common.{◌≡◌, ℕ, Bool, true, false, cond, filter, List, [], ◌∷◌, ◌++◌, Option, refl, sym, inl, inr}
use Rattle.std.specs.declared.option.Option.TheVariants.{None, Some}
use Rattle.std.specs.List.{Contains}
use Rattle.std.proofs.lemmas.List.Elements.{Contains-append_left}
use Rattle.wire_forms.specs.declared.Request.TheVariants.{Write}
use Rattle.protocol.specs.Count.{one_more}
use Rattle.protocol.specs.Messages.{Version}
use Rattle.lists.proofs.lemmas.Members.{filter_is, filter_has}
use Rattle.protocol.specs.Nodes.{accepts, outlives}
use Rattle.protocol.proofs.lemmas.Keeping.{pruned_was}
use Rattle.protocol.specs.Setting.{Setting}
use Rattle.protocol.specs.Operations.{Stage, request_of}
use Rattle.protocol.specs.Operations.Stage.{Times, Versions, Storing}
use Rattle.block_phases.specs.Phases.{Keeps}
use Rattle.block_phases.specs.Executions.{StampedValue, value_stored}
use Rattle.block_phases.specs.Phases.{ask_to}
use Rattle.block_turns.specs.Turns.{Moment, Standing, first_standing, standing_after}
use Rattle.block_turns.specs.Lives.{AreSomeOf, Takes, TakesAll, version_of, first_kept}
use Rattle.block_turns.specs.Strings.{IsValue, HasKept, IsSeen}
use Rattle.block_turns.specs.Lives.AreSomeOf.{none, stays, goes}
use Rattle.block_turns.specs.Strings.IsValue.{zeros_value, to_be_written}
use Rattle.block_turns.specs.Strings.IsSeen.{sum_seen, fragment_seen, sum_kept, fragment_kept}
use Rattle.block_turns.specs.Turns.{standing_at, kept_at}
use Rattle.block_turns.specs.Growing.{LivesBegin, LivesGoOn, EarlierAreLives, EarlierDoNotClash, LateAsksAreTaken, NothingIsTaken, MoreIsTaken, PrunesKeepSome, UndonePrunesKeepAll}
use Rattle.block_turns.proofs.Settling.{takes_parts}
use Rattle.block_turns.proofs.Working.{after_was}

takes_one_more : (s : Setting) (block : ℕ) (life : List Moment) (m : Moment) (b : Standing) (old : Keeps) → TakesAll s block b old life
    → Takes s block (standing_at b life) (kept_at old life) m.turn m.kept → TakesAll s block b old (life ++ m ∷ [])
takes_one_more s block [] m b old all one = (one, tt)
takes_one_more s block (x ∷ life) m b old all one = (all.0, takes_one_more s block life m (standing_after b x.turn) x.kept all.1 one)

pub lives_begin : (s : Setting) → LivesBegin s
lives_begin s block there = record { there = there; takes = tt }

pub lives_go_on : (s : Setting) → LivesGoOn s
lives_go_on s block life m is takes =
    record { there = is.there; takes = takes_one_more s block life m (first_standing s) (first_kept s) is.takes takes }

pub earlier_lives : (s : Setting) → EarlierAreLives s
earlier_lives s block before after is =
    record { there = is.there; takes = (takes_parts s block before after (first_standing s) (first_kept s) is.takes).0 }

module _ (s : Setting) (before after : List Moment) where
  also : (m : Moment) → Contains before m → Contains (before ++ after) m
  also m there = Contains-append_left before after m there

  value_also : {value : List ℕ} → IsValue s before value → IsValue s (before ++ after) value
  value_also zeros_value = zeros_value
  value_also (to_be_written {m = m} there e) = to_be_written (also m there) e

  kept_also : (i : ℕ) (v : Version) → HasKept s before i v → HasKept s (before ++ after) i v
  kept_also i v h = record {
    moment = h.moment;
    there = also h.moment h.there;
    below = h.below;
    lies = elim h.lies [ inl e ↦ inl e | inr m ↦ inr (m.0, also m.0 m.1, m.2) ];
    kept = h.kept;
    whole = h.whole;
  }

  seen_also : {x : List ℕ} → IsSeen s before x → IsSeen s (before ++ after) x
  seen_also (sum_seen h) = sum_seen (value_also h)
  seen_also (fragment_seen h l) = fragment_seen (value_also h) l
  seen_also (sum_kept {i = i} {v = v} h) = sum_kept (kept_also i v h)
  seen_also (fragment_kept {i = i} {v = v} h) = fragment_kept (kept_also i v h)

pub earlier_apart : (s : Setting) → EarlierDoNotClash s
earlier_apart s before after apart x y p q e = apart x y (seen_also s before after p) (seen_also s before after q) e

-- ---- what is taken late

one_more_still : (vs : List Version) (o : Option Version) (v : Version) → Contains vs v → Contains (one_more vs o) v
one_more_still vs None v h = h
one_more_still vs (Some u) v h = Contains-append_left vs (u ∷ []) v h

stored_is : (s : Setting) (stage : Stage) (i : ℕ) (v : Version) → request_of s stage i ≡ Write v
    → (x : StampedValue) × (value_stored stage ≡ Some x) × (v ≡ version_of s x i)
stored_is s Times i v e = absurd cc
stored_is s (Versions bound) i v e = absurd cc
stored_is s (Storing p u) i v e =
    (record { stamp = p; value = u }, refl, (let f : version_of s (record { stamp = p; value = u }) i ≡ v = cc in sym f))

pub late_taken : (s : Setting) → LateAsksAreTaken s
late_taken s task late i kept those = record {
  was = λ v h. elim (after_was s i kept (ask_to s task i) v h) [
    | inl k ↦ inl k
    | inr e ↦ inr (let r = stored_is s task.stage i v e in (r.0, those r.0 r.1, r.2))
  ];
  still = λ v h. one_more_still kept (accepts s i kept (ask_to s task i)) v h;
}

pub nothing_taken : (s : Setting) → NothingIsTaken s
nothing_taken s late i kept = record { was = λ v h. inl h; still = λ v h. h }

pub more_taken : (s : Setting) → MoreIsTaken s
more_taken s late i old now then a b = record {
  was = λ v h. elim (b.was v h) [ inl k ↦ a.was v k | inr r ↦ inr r ];
  still = λ v h. b.still v (a.still v h);
}

-- ---- what a prune leaves that is done in part

some_pass : (p : Version → Bool) (vs : List Version) → AreSomeOf (filter p vs) vs
some_pass p [] = none
some_pass p (v ∷ vs) = at (p v) (some_pass p vs)
  where
    at : (b : Bool) → AreSomeOf (filter p vs) vs → AreSomeOf (cond b (v ∷ filter p vs) (filter p vs)) (v ∷ vs)
    at true some = stays some
    at false some = goes some

all_stay : (vs : List Version) → AreSomeOf vs vs
all_stay [] = none
all_stay (v ∷ vs) = stays (all_stay vs)

pub prunes_keep_some : (s : Setting) → PrunesKeepSome s
prunes_keep_some s stamp old p stay = record {
  some = some_pass p old;
  among = λ v h. (let r = filter_is (outlives s stamp old) old v h in filter_has p old v r.0 (stay v r.0 r.1));
}

pub undone_keep_all : (s : Setting) → UndonePrunesKeepAll s
undone_keep_all s stamp old = record { some = all_stay old; among = λ v h. pruned_was s stamp old v h }
