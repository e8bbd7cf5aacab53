-- A kept journal goes by the node's nature and its count, and the asks that it holds back come late in order.
use Rattle.std.proofs.Common.{◌≡◌, ◌⊎◌, ℕ, zero, suc, ◌+◌, ◌-◌, ◌<◌, ◌≤◌, Bool, true, false, cond, List, [], ◌∷◌, ◌++◌, Option, refl, sym, ap, subst, ◌∙◌, inl, inr, arith, append_assoc}
use Rattle.std.specs.Prelude.{not, ◌||◌, drop}
use Rattle.std.specs.declared.option.Option.TheVariants.{None, Some}
use Rattle.std.specs.List.{flat_map}
use Rattle.std.proofs.lemmas.Bool.Decides.{eqb_tells}
use Rattle.std.proofs.lemmas.List.{append-nil}
use Rattle.std.proofs.lemmas.List.Sums.{sum_by-cons}
use Rattle.std.proofs.Math.Bool.{or-false}
use Rattle.quorum_rules.specs.Limits.{Numbers}
use Rattle.protocol.specs.Messages.{Message}
use Rattle.liar_rules.specs.Answers.{answer_to}
use Rattle.journals.specs.declared.desk.Way.{Way}
use Rattle.journals.specs.declared.desk.Way.TheVariants.{Call, Lose, Hold}
use Rattle.journals.specs.declared.node.Nature.{Nature}
use Rattle.journals.specs.declared.node.Nature.TheVariants.{Honest, Lying as Lies}
use Rattle.journals.specs.declared.node.Silence.{Silence}
use Rattle.journals.specs.declared.node.Silence.TheVariants.{Crashed, Dropped, Held, Lying}
use Rattle.journals.specs.declared.node.NodeAct.{NodeAct}
use Rattle.journals.specs.declared.node.NodeAct.TheVariants.{Answered, Lied, Silent, CrashedAt, Delivered, LateLost, Pruned}
use Rattle.journals.specs.declared.node.NodeEntry.{NodeEntry}
use Rattle.journals.specs.Steps.{is_lying}
use Rattle.journals.specs.Acts.{NodeState, Cause, new_state, act, late_act, answers, handles, lied, can_prune, after, after_all, held_back, cause_of, act_by, MayCome, IsAct, NodeKept, is_spent, one_less}
use Rattle.journals.specs.Acts.Cause.{Comes, ComesLate, Prunes}
use Rattle.locked_nodes.specs.Conduct.{serves, served_in, crashes, has_crashed, held_by, held, came_late, IsUp, TellsByRule, IsSilence, GoesByConduct, EntriesGo, HeldComeAgain}
use Rattle.locked_nodes.proofs.Keeping.{after_all_keeps}

-- ---- what a node does in a state

record IsUpNow (s : NodeState) : Type 0 where
  up : s.crashed ≡ false
  more : is_spent s.crash_after ≡ false

abbrev SilentNow : Nature → NodeState → Message → Silence → Type 0
SilentNow nature s ask Crashed = s.crashed ≡ true
SilentNow nature s ask Lying = IsUpNow s × TellsByRule s.node.config nature ask None
SilentNow nature s ask Dropped = Unit {0}
SilentNow nature s ask Held = Unit {0}

-- the act goes by the nature and the count of a node in this state
abbrev GoesNow : Nature → NodeState → NodeAct → Type 0
GoesNow nature s (Answered ask reply) = IsUpNow s × (nature ≡ Honest)
GoesNow nature s (Delivered ask reply) = IsUpNow s × (nature ≡ Honest)
GoesNow nature s (Lied ask reply) = IsUpNow s × TellsByRule s.node.config nature ask (Some reply)
GoesNow nature s (Silent ask why) = SilentNow nature s ask why
GoesNow nature s (CrashedAt ask late) = (s.crashed ≡ false) × (is_spent s.crash_after ≡ true)
GoesNow nature s (LateLost ask) = (s.crashed ≡ true) ⊎ (IsUpNow s × (is_lying nature ≡ true))
GoesNow nature s (Pruned block stamp) = (s.crashed ≡ false) × (nature ≡ Honest)

module _ (s : NodeState) where
  lied_goes : (nature : Nature) (ask : Message) (o : Option Message) → IsUpNow s → TellsByRule s.node.config nature ask o → GoesNow nature s (lied ask o)
  lied_goes nature ask None up tells = (up, tells)
  lied_goes nature ask (Some reply) up tells = (up, tells)

  answers_goes : (nature : Nature) (ask : Message) → IsUpNow s → GoesNow nature s (answers s nature ask)
  answers_goes Honest ask up = (up, refl)
  answers_goes (Lies rule) ask up = lied_goes (Lies rule) ask (answer_to s.node.config rule ask ask.body) up refl

  handles_goes : (nature : Nature) (ask : Message) → IsUpNow s → GoesNow nature s (handles s nature ask)
  handles_goes Honest ask up = (up, refl)
  handles_goes (Lies rule) ask up = inr (up, refl)

  act_goes : (nature : Nature) (way : Way) (ask : Message) → GoesNow nature s (act s nature way ask)
  act_goes nature Lose ask = tt
  act_goes nature Hold ask = tt
  act_goes nature Call ask = at s.crashed (is_spent s.crash_after) refl refl
    where
      at : (c spent : Bool) → s.crashed ≡ c → is_spent s.crash_after ≡ spent → GoesNow nature s (cond c (Silent ask Crashed) (cond spent (CrashedAt ask false) (answers s nature ask)))
      at true spent up used = up
      at false true up used = (up, used)
      at false false up used = answers_goes nature ask (record { up = up; more = used })

  late_goes : (nature : Nature) (ask : Message) → GoesNow nature s (late_act s nature ask)
  late_goes nature ask = at s.crashed (is_spent s.crash_after) refl refl
    where
      at : (c spent : Bool) → s.crashed ≡ c → is_spent s.crash_after ≡ spent → GoesNow nature s (cond c (LateLost ask) (cond spent (CrashedAt ask true) (handles s nature ask)))
      at true spent up used = inl up
      at false true up used = (up, used)
      at false false up used = handles_goes nature ask (record { up = up; more = used })

  not_crashed : (c : Bool) → not c ≡ true → c ≡ false
  not_crashed true h = absurd (cc)
  not_crashed false h = refl

  prune_goes : (nature : Nature) → can_prune s nature ≡ true → (s.crashed ≡ false) × (nature ≡ Honest)
  prune_goes Honest h = (not_crashed s.crashed h, refl)
  prune_goes (Lies rule) h = absurd (cc)

  by_goes : (nature : Nature) (k : Cause) → MayCome nature s k → GoesNow nature s (act_by nature s k)
  by_goes nature (Comes way ask) may = act_goes nature way ask
  by_goes nature (ComesLate ask) may = late_goes nature ask
  by_goes nature (Prunes block stamp) may = prune_goes nature may.0

  is_goes : (nature : Nature) (a : NodeAct) → IsAct nature s a → GoesNow nature s a
  is_goes nature a is = subst (GoesNow nature s) (sym is.done) (by_goes nature (cause_of a) is.comes)

-- ---- the state that entries leave

abbrev count_after : Option ℕ → ℕ → Option ℕ
count_after None m = None
count_after (Some n) m = Some (n - m)

held_crashed : (s : NodeState) (ask : Message) (why : Silence) → ((held_back s ask why).crashed ≡ s.crashed) × ((held_back s ask why).crash_after ≡ s.crash_after)
held_crashed s ask Crashed = (refl, refl)
held_crashed s ask Dropped = (refl, refl)
held_crashed s ask Held = (refl, refl)
held_crashed s ask Lying = (refl, refl)

or_true : (b : Bool) → (b || true) ≡ true
or_true true = refl
or_true false = refl

or_assoc : (a b c : Bool) → ((a || b) || c) ≡ (a || (b || c))
or_assoc true b c = refl
or_assoc false b c = refl

after_crashed : (s : NodeState) (a : NodeAct) → (after s a).crashed ≡ (s.crashed || crashes a)
after_crashed s (Answered ask reply) = sym (or-false s.crashed)
after_crashed s (Lied ask reply) = sym (or-false s.crashed)
after_crashed s (Silent ask why) = (held_crashed s ask why).0 ∙ sym (or-false s.crashed)
after_crashed s (CrashedAt ask late) = sym (or_true s.crashed)
after_crashed s (Delivered ask reply) = sym (or-false s.crashed)
after_crashed s (LateLost ask) = sym (or-false s.crashed)
after_crashed s (Pruned block stamp) = sym (or-false s.crashed)

no_less : (o : Option ℕ) → o ≡ count_after o 0
no_less None = refl
no_less (Some n) = ap (λ x. Some x) (let same : n ≡ n - 0 = omega arith in same)

is_less : (o : Option ℕ) → one_less o ≡ count_after o 1
is_less None = refl
is_less (Some n) = refl

after_count : (s : NodeState) (a : NodeAct) → (after s a).crash_after ≡ count_after s.crash_after (cond (serves a) 1 0)
after_count s (Answered ask reply) = is_less s.crash_after
after_count s (Lied ask reply) = no_less s.crash_after
after_count s (Silent ask why) = (held_crashed s ask why).1 ∙ no_less s.crash_after
after_count s (CrashedAt ask late) = no_less s.crash_after
after_count s (Delivered ask reply) = is_less s.crash_after
after_count s (LateLost ask) = no_less s.crash_after
after_count s (Pruned block stamp) = no_less s.crash_after

count_twice : (o : Option ℕ) (m k : ℕ) → count_after (count_after o m) k ≡ count_after o (m + k)
count_twice None m k = refl
count_twice (Some n) m k = ap (λ x. Some x) (omega arith)

all_crashed : (s : NodeState) (es : List NodeEntry) → (after_all s es).crashed ≡ (s.crashed || has_crashed es)
all_crashed s [] = sym (or-false s.crashed)
all_crashed s (e ∷ es) = all_crashed (after s e.act) es ∙ ap (λ b. b || has_crashed es) (after_crashed s e.act) ∙ or_assoc s.crashed (crashes e.act) (has_crashed es)

served_more : (e : NodeEntry) (es : List NodeEntry) → served_in (e ∷ es) ≡ cond (serves e.act) 1 0 + served_in es
served_more e es = sum_by-cons (λ (x : NodeEntry). cond (serves x.act) 1 0) e es

all_count : (s : NodeState) (es : List NodeEntry) → (after_all s es).crash_after ≡ count_after s.crash_after (served_in es)
all_count s [] = no_less s.crash_after
all_count s (e ∷ es) = all_count (after s e.act) es ∙ ap (λ o. count_after o (served_in es)) (after_count s e.act) ∙ count_twice s.crash_after (cond (serves e.act) 1 0) (served_in es) ∙ ap (λ m. count_after s.crash_after m) (sym (served_more e es))

-- ---- no more asks are served than the count

some_left : (n : ℕ) → is_spent (Some n) ≡ false → 0 < n
some_left zero h = absurd (cc)
some_left (suc n) h = omega arith

serves_up : (nature : Nature) (s : NodeState) (a : NodeAct) → GoesNow nature s a → serves a ≡ true → is_spent s.crash_after ≡ false
serves_up nature s (Answered ask reply) goes is = goes.0.more
serves_up nature s (Delivered ask reply) goes is = goes.0.more
serves_up nature s (Lied ask reply) goes is = absurd (cc)
serves_up nature s (Silent ask why) goes is = absurd (cc)
serves_up nature s (CrashedAt ask late) goes is = absurd (cc)
serves_up nature s (LateLost ask) goes is = absurd (cc)
serves_up nature s (Pruned block stamp) goes is = absurd (cc)

some_is : (a b : ℕ) → ◌≡◌ {A = Option ℕ} (Some a) (Some b) → a ≡ b
some_is a b e = cc

served_step : (s : NodeState) (e : NodeEntry) (es : List NodeEntry) (n : ℕ) → s.crash_after ≡ Some n → (serves e.act ≡ true → is_spent s.crash_after ≡ false)
    → ((m : ℕ) → (after s e.act).crash_after ≡ Some m → served_in es ≤ m) → served_in (e ∷ es) ≤ n
served_step s e es n is up rest = at (serves e.act) refl
  where
    at : (b : Bool) → serves e.act ≡ b → served_in (e ∷ es) ≤ n
    at true aye =
        let left : 0 < n = some_left n (subst (λ o. is_spent o ≡ false) is (up aye)) in
        let more : served_in es ≤ n - 1 = rest (n - 1) (after_count s e.act ∙ ap (λ o. count_after o (cond (serves e.act) 1 0)) is ∙ ap (λ x. Some (n - cond x 1 0)) aye) in
        let one : served_in (e ∷ es) ≡ 1 + served_in es = served_more e es ∙ ap (λ x. cond x 1 0 + served_in es) aye in
        omega (arith, left, more, one)
    at false nay =
        let more : served_in es ≤ n - 0 = rest (n - 0) (after_count s e.act ∙ ap (λ o. count_after o (cond (serves e.act) 1 0)) is ∙ ap (λ x. Some (n - cond x 1 0)) nay) in
        let none : served_in (e ∷ es) ≡ 0 + served_in es = served_more e es ∙ ap (λ x. cond x 1 0 + served_in es) nay in
        omega (arith, more, none)

served_below : (nature : Nature) (s : NodeState) (es : List NodeEntry) (n : ℕ) → NodeKept nature s es → s.crash_after ≡ Some n → served_in es ≤ n
served_below nature s [] n kept is = omega arith
served_below nature s (e ∷ es) n kept is =
    served_step s e es n is (serves_up nature s e.act (is_goes s nature e.act kept.0)) (λ m next. served_below nature (after s e.act) es m kept.1 next)

-- ---- each entry, after those before it

kept_front : (nature : Nature) (s : NodeState) (before rest : List NodeEntry) → NodeKept nature s (before ++ rest) → NodeKept nature s before × NodeKept nature (after_all s before) rest
kept_front nature s [] rest kept = (tt, kept)
kept_front nature s (x ∷ before) rest kept =
    let more = kept_front nature (after s x.act) before rest kept.1 in
    ((kept.0, more.0), more.1)

none_left : (n : ℕ) → is_spent (Some n) ≡ true → n ≡ 0
none_left n h = elim (eqb_tells n 0) [ inl same ↦ same.1 | inr not ↦ absurd (let a = not.0 in let b = h in cc) ]

spent_is : (o : Option ℕ) (m : ℕ) → ((n : ℕ) → o ≡ Some n → m ≤ n) → is_spent (count_after o m) ≡ true → o ≡ Some m
spent_is None m below h = absurd (cc)
spent_is (Some n) m below h = let none = none_left (n - m) h in let le = below n refl in ap (λ x. Some x) (omega (arith, none, le))

unspent_is : (o : Option ℕ) (m : ℕ) → is_spent (count_after o m) ≡ false → (n : ℕ) → o ≡ Some n → m < n
unspent_is None m h n is = absurd (cc)
unspent_is (Some k) m h n is = let some = some_left (k - m) h in let same = some_is k n is in omega (arith, some, same)

module _ (config : Numbers) (crash_after : Option ℕ) (before : List NodeEntry) (s : NodeState) (crashed_is : s.crashed ≡ has_crashed before) (count_is : s.crash_after ≡ count_after crash_after (served_in before))
    (config_is : s.node.config ≡ config) (below : (n : ℕ) → crash_after ≡ Some n → served_in before ≤ n) where
  is_up : IsUpNow s → IsUp crash_after before
  is_up now = record { up = sym crashed_is ∙ now.up; more = unspent_is crash_after (served_in before) (subst (λ o. is_spent o ≡ false) count_is now.more) }

  tells : (nature : Nature) (ask : Message) (o : Option Message) → TellsByRule s.node.config nature ask o → TellsByRule config nature ask o
  tells nature ask o h = subst (λ c. TellsByRule c nature ask o) config_is h

  is_silence : (nature : Nature) (ask : Message) (why : Silence) → SilentNow nature s ask why → IsSilence config nature crash_after before ask why
  is_silence nature ask Crashed h = sym crashed_is ∙ h
  is_silence nature ask Lying h = (is_up h.0, tells nature ask None h.1)
  is_silence nature ask Dropped h = tt
  is_silence nature ask Held h = tt

  by_conduct : (nature : Nature) (a : NodeAct) → GoesNow nature s a → GoesByConduct config nature crash_after before a
  by_conduct nature (Answered ask reply) h = (is_up h.0, h.1)
  by_conduct nature (Delivered ask reply) h = (is_up h.0, h.1)
  by_conduct nature (Lied ask reply) h = (is_up h.0, tells nature ask (Some reply) h.1)
  by_conduct nature (Silent ask why) h = is_silence nature ask why h
  by_conduct nature (CrashedAt ask late) h = (sym crashed_is ∙ h.0, spent_is crash_after (served_in before) below (subst (λ o. is_spent o ≡ true) count_is h.1))
  by_conduct nature (LateLost ask) h = elim h [ inl crashed ↦ inl (sym crashed_is ∙ crashed) | inr lies ↦ inr (is_up lies.0, lies.1) ]
  by_conduct nature (Pruned block stamp) h = (sym crashed_is ∙ h.0, h.1)

pub entries_go : EntriesGo
entries_go config number nature crash_after journal before rest e kept is =
    let first : NodeState = new_state config number crash_after in
    let parts = kept_front nature first before (e ∷ rest) (subst (NodeKept nature first) is kept) in
    by_conduct config crash_after before (after_all first before) (all_crashed first before) (all_count first before) (after_all_keeps first before).0
    (λ n some. served_below nature first before n parts.0 some) nature e.act (is_goes (after_all first before) nature e.act parts.1.0)

-- ---- what is held back comes late, in order

taken : (late : List Message) (ask : Message) (rest : List Message) → late ≡ ask ∷ rest → late ≡ ask ∷ drop 1 late
taken [] ask rest h = absurd (cc)
taken (m ∷ late) ask rest h = let same : m ≡ ask = cc in ap (λ x. x ∷ late) same

held_one : (s : NodeState) (ask : Message) (why : Silence) → s.late ++ held_by why ask ≡ (held_back s ask why).late
held_one s ask Held = refl
held_one s ask Crashed = append-nil s.late
held_one s ask Dropped = append-nil s.late
held_one s ask Lying = append-nil s.late

late_one : (nature : Nature) (s : NodeState) (a : NodeAct) → IsAct nature s a → s.late ++ held a ≡ came_late a ++ (after s a).late
late_one nature s (Answered ask reply) is = append-nil s.late
late_one nature s (Lied ask reply) is = append-nil s.late
late_one nature s (Silent ask why) is = held_one s ask why
late_one nature s (CrashedAt ask true) is = append-nil s.late ∙ taken s.late ask is.comes.1.0 is.comes.1.1
late_one nature s (CrashedAt ask false) is = append-nil s.late
late_one nature s (Delivered ask reply) is = append-nil s.late ∙ taken s.late ask is.comes.1.0 is.comes.1.1
late_one nature s (LateLost ask) is = append-nil s.late ∙ taken s.late ask is.comes.1.0 is.comes.1.1
late_one nature s (Pruned block stamp) is = append-nil s.late

-- five lists, of which the first two are the next two
regrouped : (late h c next hs cs left : List Message) → late ++ h ≡ c ++ next → next ++ hs ≡ cs ++ left → late ++ (h ++ hs) ≡ (c ++ cs) ++ left
regrouped late h c next hs cs left one more =
    sym (append_assoc late h hs) ∙ ap (λ x. x ++ hs) one ∙ append_assoc c next hs ∙ ap (λ x. c ++ x) more ∙ sym (append_assoc c cs left)

late_all : (nature : Nature) (s : NodeState) (es : List NodeEntry) → NodeKept nature s es → s.late ++ flat_map (λ e. held e.act) es ≡ flat_map (λ e. came_late e.act) es ++ (after_all s es).late
late_all nature s [] kept = append-nil s.late
late_all nature s (e ∷ es) kept =
    regrouped s.late (held e.act) (came_late e.act) (after s e.act).late (flat_map (λ x. held x.act) es) (flat_map (λ x. came_late x.act) es) (after_all s (e ∷ es)).late
    (late_one nature s e.act kept.0) (late_all nature (after s e.act) es kept.1)

pub held_come_again : HeldComeAgain
held_come_again config number nature crash_after journal kept = late_all nature (new_state config number crash_after) journal kept
