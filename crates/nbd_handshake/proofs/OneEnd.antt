-- An input has one end, and a handshake that meets no fault comes to it.
use Rattle.std.proofs.Common.{◌≡◌, ◌≢◌, ◌⊎◌, ℕ, ◌+◌, ◌<◌, ◌≤◌, true, false, List, [], ◌∷◌, ◌++◌, length, take, drop, refl, sym, ◌∙◌, ap, subst, arith, inl, inr, length-append, append_assoc, Option, Some, None, Ok, Err}
use Rattle.std.proofs.Math.Seq.{take_at}
use Rattle.std.proofs.lemmas.List.{append-nil, drop_at, take-append-le}
use Rattle.std.proofs.lemmas.List.Elements.{All-head, All-tail, All-nil}
use Rattle.std.specs.Int.{w32, from_be_bytes}
use Rattle.std.specs.List.{All, concat}
use Rattle.std.specs.Io.KnownBytes.{Consumes, IsAtEnd}
use Rattle.nbd_handshake.specs.declared.export.Export.{Export}
use Rattle.nbd_handshake.specs.declared.course.Course.{Course}
use Rattle.nbd_handshake.specs.declared.course.Course.TheVariants as courses
use Rattle.nbd_handshake.specs.declared.ending.Agreement.TheVariants.{Transmission, Departure}
use Rattle.nbd_handshake.specs.declared.ending.HandshakeFault.TheVariants.{ReadFault, WriteFault, UnknownFlags, BadMagic, Cut, UnknownExport, TooManyOptions}
use Rattle.nbd_handshake.specs.Numbers.{option_magic, most_options}
use Rattle.nbd_handshake.specs.Options.{flags_of, are_known, head_len, data_len, option_of, course_of, IsOption, IsPart}
use Rattle.nbd_handshake.specs.Handshakes.{End, Goes, GoOn, EndsWith, AreFlags, MayFollow, IsCut, IsEnd, IsRest, IsHandshake, EndsSo}
use Rattle.nbd_handshake.proofs.Parts.{same_magic, same_len}

-- ---- no option begins with the text
abbrev pub BeginsNone : List ℕ → Type 0
BeginsNone text = (bytes more : List ℕ) → IsOption bytes → text ≡ bytes ++ more → ⊥

at_least : {bytes : List ℕ} → IsOption bytes → head_len ≤ length bytes
at_least {bytes} is = omega (arith, is.size)

nothing_begins : BeginsNone []
nothing_begins bytes more is e = omega (arith, ap length e, length-append bytes more, is.size)

wrong_begins : (text : List ℕ) → take 8 text ≢ option_magic → BeginsNone text
wrong_begins text wrong bytes more is e = wrong (ap (take 8) e ∙ same_magic bytes more (at_least is) ∙ is.magic)

part_begins : (text : List ℕ) → IsPart text → BeginsNone text
part_begins text part bytes more is e =
    let long : length text ≡ length bytes + length more = ap length e ∙ length-append bytes more in
    let same : data_len text ≡ data_len bytes = ap data_len e ∙ same_len bytes more (at_least is) in
    let short = part.short (omega (arith, long, is.size)) in
    omega (arith, short, same, long, is.size)

-- ---- options that end a handshake, one after the other: each but the last goes on; behind it none follows, or none may
abbrev Closes : ℕ → List (List ℕ) → List ℕ → Type 0
Closes n [] rest = BeginsNone rest ⊎ (n ≡ most_options)
Closes n (o ∷ os) rest = (n < most_options) × ((Goes courses.More o × Closes (n + 1) os rest) ⊎ ((Goes courses.More o → ⊥) × (os ≡ [])))

-- the last of them doesn't go on
closes_with : (n : ℕ) (before : List (List ℕ)) (last rest : List ℕ) → GoOn before → (Goes courses.More last → ⊥) → n + length (before ++ last ∷ []) ≤ most_options → Closes n (before ++ last ∷ []) rest
closes_with n [] last rest more stops few = (omega (arith, few), inr (stops, refl))
closes_with n (o ∷ os) last rest more stops few =
    (omega (arith, few), inl (All-head (Goes courses.More) o os more, closes_with (n + 1) os last rest (All-tail (Goes courses.More) o os more) stops (omega (arith, few))))

-- all of them go on
closes_on : (n : ℕ) (options : List (List ℕ)) (rest : List ℕ) → GoOn options → n + length options ≤ most_options → BeginsNone rest ⊎ (n + length options ≡ most_options) → Closes n options rest
closes_on n [] rest more few (inl none) = inl none
closes_on n [] rest more few (inr all) = inr (omega (arith, all))
closes_on n (o ∷ os) rest more few done =
    (omega (arith, few), inl (All-head (Goes courses.More) o os more, closes_on (n + 1) os rest (All-tail (Goes courses.More) o os more) (omega (arith, few)) (on done)))
  where
    on : BeginsNone rest ⊎ (n + length (o ∷ os) ≡ most_options) → BeginsNone rest ⊎ ((n + 1) + length os ≡ most_options)
    on (inl none) = inl none
    on (inr all) = inr (omega (arith, all))

-- ---- a text comes apart in one way
pub record AreSame (options others : List (List ℕ)) (rest other : List ℕ) : Type 0 where
  pub options_are : options ≡ others
  pub rest_is : rest ≡ other

-- two options with which one text begins
record BeginSame (a b x y : List ℕ) : Type 0 where
  pub option_is : a ≡ b
  pub rest_is : x ≡ y

begin_same : (a b x y : List ℕ) → IsOption a → IsOption b → a ++ x ≡ b ++ y → BeginSame a b x y
begin_same a b x y is it e =
    let len : data_len a ≡ data_len b = sym (same_len a x (at_least is)) ∙ ap data_len e ∙ same_len b y (at_least it) in
    let long : length b ≡ length a = omega (arith, is.size, it.size, len) in
    record {
      option_is = sym (take_at a x (length a) refl) ∙ ap (take (length a)) e ∙ take_at b y (length a) long;
      rest_is = sym (drop_at a x (length a) refl) ∙ ap (drop (length a)) e ∙ drop_at b y (length a) long;
    }

none_more : (n : ℕ) (rest bytes text : List ℕ) → BeginsNone rest ⊎ (n ≡ most_options) → n < most_options → IsOption bytes → rest ≡ bytes ++ text → ⊥
none_more n rest bytes text (inl none) few is e = none bytes text is e
none_more n rest bytes text (inr all) few is e = omega (arith, all, few)

-- how a list of options goes on behind its first one
abbrev Follows : ℕ → List ℕ → List (List ℕ) → List ℕ → Type 0
Follows n first options rest = (Goes courses.More first × Closes (n + 1) options rest) ⊎ ((Goes courses.More first → ⊥) × (options ≡ []))

apart_both : (n : ℕ) (a b : List ℕ) (options others : List (List ℕ)) (rest other : List ℕ) → BeginSame a b (concat options ++ rest) (concat others ++ other)
    → (Closes (n + 1) options rest → Closes (n + 1) others other → AreSame options others rest other) → Follows n a options rest → Follows n b others other
    → AreSame (a ∷ options) (b ∷ others) rest other
apart_both n a b options others rest other same on x y = by_both x y
  where
    with_first : AreSame options others rest other → AreSame (a ∷ options) (b ∷ others) rest other
    with_first s = record { options_are = ap (λ x. x ∷ options) same.option_is ∙ ap (λ xs. b ∷ xs) s.options_are; rest_is = s.rest_is }

    by_both : Follows n a options rest → Follows n b others other → AreSame (a ∷ options) (b ∷ others) rest other
    by_both (inl x) (inl y) = with_first (on x.1 y.1)
    by_both (inl x) (inr y) = absurd (y.0 (subst (Goes courses.More) same.option_is x.0))
    by_both (inr x) (inl y) = absurd (x.0 (subst (Goes courses.More) (sym same.option_is) y.0))
    by_both (inr x) (inr y) = with_first (record {
      options_are = x.1 ∙ sym y.1;
      rest_is = ap (λ os. concat os ++ rest) (sym x.1) ∙ same.rest_is ∙ ap (λ os. concat os ++ other) y.1;
    })

pub comes_apart : (n : ℕ) (options others : List (List ℕ)) (rest other : List ℕ) → All IsOption options → All IsOption others → Closes n options rest → Closes n others other
    → concat options ++ rest ≡ concat others ++ other → AreSame options others rest other
comes_apart n [] [] rest other whole are done ended e = record { options_are = refl; rest_is = e }
comes_apart n [] (b ∷ others) rest other whole are done ended e =
    absurd (none_more n rest b (concat others ++ other) done ended.0 (All-head IsOption b others are) (e ∙ append_assoc b (concat others) other))
comes_apart n (a ∷ options) [] rest other whole are done ended e =
    absurd (none_more n other a (concat options ++ rest) ended done.0 (All-head IsOption a options whole) (sym e ∙ append_assoc a (concat options) rest))
comes_apart n (a ∷ options) (b ∷ others) rest other whole are done ended e =
    let same = begin_same a b (concat options ++ rest) (concat others ++ other) (All-head IsOption a options whole) (All-head IsOption b others are)
    (sym (append_assoc a (concat options) rest) ∙ e ∙ append_assoc b (concat others) other) in
    apart_both n a b options others rest other same
    (λ x y. comes_apart (n + 1) options others rest other (All-tail IsOption a options whole) (All-tail IsOption b others are) x y same.rest_is) done.1 ended.1

-- ---- how a handshake ends: by its last option, or by what stands behind options that all go on
abbrev end_by : Course → ℕ → End
end_by courses.Transmit place = Ok Transmission
end_by courses.Leave place = Ok Departure
end_by courses.Unknown place = Err (UnknownExport (4 + place))
end_by courses.More place = Ok Departure

-- the last option ends it so
record HasEndedBy (end : End) (options : List (List ℕ)) : Type 0 where
  pub course : Course
  pub place : ℕ
  pub last : EndsWith course options place
  pub stops : course ≢ courses.More
  pub is : end ≡ end_by course place

-- what stands behind options that all go on ends it so
abbrev IsBehind : End → List ℕ → List (List ℕ) → List ℕ → Type 0
IsBehind (Ok Departure) flags options rest = (length options < most_options) × (rest ≡ [])
IsBehind (Err UnknownFlags) flags options rest = (flags ≡ []) × (4 ≤ length rest) × (are_known (flags_of rest) ≡ false)
IsBehind (Err (BadMagic at)) flags options rest = (at ≡ 4 + length (concat options)) × AreFlags flags × (length options < most_options) × (8 ≤ length rest) × (take 8 rest ≢ option_magic)
IsBehind (Err (Cut at)) flags options rest = (at ≡ length flags + length (concat options)) × (length options < most_options) × (0 < length rest) × IsCut flags rest
IsBehind (Err TooManyOptions) flags options rest = length options ≡ most_options
IsBehind end flags options rest = ⊥

abbrev Ways : End → List ℕ → List (List ℕ) → List ℕ → Type 0
Ways end flags options rest = HasEndedBy end options ⊎ (GoOn options × IsBehind end flags options rest)

none_on : GoOn []
none_on = All-nil (Goes courses.More)

way_of : (end : End) (flags : List ℕ) (options : List (List ℕ)) (rest : List ℕ) → MayFollow flags options → IsRest end flags options rest → Ways end flags options rest
way_of (Ok Transmission) flags options rest follow is = inl (record { course = courses.Transmit; place = is.0; last = is.1; stops = λ e. cc; is = refl })
way_of (Ok Departure) flags options rest follow (inl is) = inl (record { course = courses.Leave; place = is.0; last = is.1; stops = λ e. cc; is = refl })
way_of (Ok Departure) flags options rest follow (inr is) = inr (is.0.more, (is.0.few, is.1))
way_of (Err UnknownFlags) flags options rest (inl are) is = absurd (omega (arith, are.size, ap length is.0))
way_of (Err UnknownFlags) flags options rest (inr none) is = inr (subst GoOn (sym none.1) none_on, (is.0, is.1, is.2))
way_of (Err (BadMagic at)) flags options rest follow is = inr (is.2.more, (is.0, is.1, is.2.few, is.3, is.4))
way_of (Err (Cut at)) flags options rest follow is = inr (is.1.more, (is.0, is.1.few, is.2, is.3))
way_of (Err (UnknownExport at)) flags options rest follow is = inl (record { course = courses.Unknown; place = is.0; last = is.2; stops = λ e. cc; is = ap (λ n. Err (UnknownExport n)) is.1 })
way_of (Err TooManyOptions) flags options rest follow is = inr (is.1, is.0)
way_of (Err ReadFault) flags options rest follow is = absurd is
way_of (Err WriteFault) flags options rest follow is = absurd is

-- ---- behind the client's flags the options close, and what stands behind them begins none
part_of : (flags rest : List ℕ) → AreFlags flags → IsCut flags rest → IsPart rest
part_of [] rest are cut = absurd (omega (arith, are.size))
part_of (flag ∷ flags) rest are cut = cut

short_of : (flags rest : List ℕ) → flags ≡ [] → IsCut flags rest → length rest < 4
short_of [] rest none cut = cut
short_of (flag ∷ flags) rest none cut = absurd (omega (arith, ap length none))

done_at : (end : End) (flags : List ℕ) (options : List (List ℕ)) (rest : List ℕ) → AreFlags flags → IsBehind end flags options rest → BeginsNone rest ⊎ (0 + length options ≡ most_options)
done_at (Ok Departure) flags options rest are is = inl (subst BeginsNone (sym is.1) nothing_begins)
done_at (Err UnknownFlags) flags options rest are is = absurd (omega (arith, are.size, ap length is.0))
done_at (Err (BadMagic at)) flags options rest are is = inl (wrong_begins rest is.4)
done_at (Err (Cut at)) flags options rest are is = inl (part_begins rest (part_of flags rest are is.3))
done_at (Err TooManyOptions) flags options rest are is = inr (omega (arith, is))
done_at end flags options rest are is = absurd is

closes_of : (end : End) (flags : List ℕ) (options : List (List ℕ)) (rest : List ℕ) → AreFlags flags → length options ≤ most_options → Ways end flags options rest → Closes 0 options rest
closes_of end flags options rest are few (inl x) =
    let l = x.last in
    subst (λ os. Closes 0 os rest) (sym l.all) (closes_with 0 l.before l.last rest l.more (λ more. x.stops (sym l.goes ∙ more)) (omega (arith, few, ap length l.all)))
closes_of end flags options rest are few (inr x) = closes_on 0 options rest x.0 (omega (arith, few)) (done_at end flags options rest are x.1)

-- ---- the same options and rest have one end
last_on : (before : List (List ℕ)) (last : List ℕ) → GoOn (before ++ last ∷ []) → Goes courses.More last
last_on [] last on = All-head (Goes courses.More) last [] on
last_on (b ∷ before) last on = last_on before last (All-tail (Goes courses.More) b (before ++ last ∷ []) on)

record EndSame (c d : Course) (place other : ℕ) : Type 0 where
  pub course_is : c ≡ d
  pub place_is : place ≡ other

ends_same : (c d : Course) (before others : List (List ℕ)) (last other : List ℕ) → GoOn before → GoOn others → Goes c last → Goes d other → c ≢ courses.More → d ≢ courses.More
    → before ++ last ∷ [] ≡ others ++ other ∷ [] → EndSame c d (length (concat before)) (length (concat others))
ends_same c d [] [] last other on too goes go stops stop e =
    let same : last ≡ other = cc in
    record { course_is = sym goes ∙ ap (λ b. course_of (option_of b)) same ∙ go; place_is = refl }
ends_same c d [] (b ∷ others) last other on too goes go stops stop e =
    let same : last ≡ b = cc in
    absurd (stops (sym goes ∙ ap (λ x. course_of (option_of x)) same ∙ All-head (Goes courses.More) b others too))
ends_same c d (b ∷ before) [] last other on too goes go stops stop e =
    let same : b ≡ other = cc in
    absurd (stop (sym go ∙ ap (λ x. course_of (option_of x)) (sym same) ∙ All-head (Goes courses.More) b before on))
ends_same c d (a ∷ before) (b ∷ others) last other on too goes go stops stop e =
    let same : a ≡ b = cc in
    let more : before ++ last ∷ [] ≡ others ++ other ∷ [] = cc in
    let rest = ends_same c d before others last other (All-tail (Goes courses.More) a before on) (All-tail (Goes courses.More) b others too) goes go stops stop more in
    record { course_is = rest.course_is; place_is = omega (arith, ap length same, rest.place_is, length-append a (concat before), length-append b (concat others)) }

ended_same : (a b : End) (options : List (List ℕ)) → HasEndedBy a options → HasEndedBy b options → a ≡ b
ended_same a b options x y =
    let l = x.last in
    let m = y.last in
    let same = ends_same x.course y.course l.before m.before l.last m.last l.more m.more l.goes m.goes x.stops y.stops (sym l.all ∙ m.all) in
    x.is ∙ ap (λ c. end_by c x.place) same.course_is ∙ ap (end_by y.course) (l.begins ∙ same.place_is ∙ sym m.begins) ∙ sym y.is

not_both : (end : End) (options : List (List ℕ)) → HasEndedBy end options → GoOn options → ⊥
not_both end options x on =
    let l = x.last in
    x.stops (sym l.goes ∙ last_on l.before l.last (subst GoOn l.all on))

no_flags : (flags : List ℕ) → flags ≡ [] → AreFlags flags → ⊥
no_flags flags none are = omega (arith, ap length none, are.size)

few_early : (flags : List ℕ) (options : List (List ℕ)) → MayFollow flags options → flags ≡ [] → length options ≡ most_options → ⊥
few_early flags options (inl are) none all = no_flags flags none are
few_early flags options (inr early) none all = omega (arith, ap length early.1, all)

same_behind : (a b : End) (flags : List ℕ) (options : List (List ℕ)) (rest : List ℕ) → MayFollow flags options → IsBehind a flags options rest → IsBehind b flags options rest → a ≡ b
same_behind (Ok Departure) (Ok Departure) f o r w x y = refl
same_behind (Ok Departure) (Err UnknownFlags) f o r w x y = absurd (omega (arith, ap length x.1, y.1))
same_behind (Ok Departure) (Err (BadMagic at)) f o r w x y = absurd (omega (arith, ap length x.1, y.3))
same_behind (Ok Departure) (Err (Cut at)) f o r w x y = absurd (omega (arith, ap length x.1, y.2))
same_behind (Ok Departure) (Err TooManyOptions) f o r w x y = absurd (omega (arith, x.0, y))
same_behind (Ok Departure) b f o r w x y = absurd y
same_behind (Err UnknownFlags) (Ok Departure) f o r w x y = absurd (omega (arith, ap length y.1, x.1))
same_behind (Err UnknownFlags) (Err UnknownFlags) f o r w x y = refl
same_behind (Err UnknownFlags) (Err (BadMagic at)) f o r w x y = absurd (no_flags f x.0 y.1)
same_behind (Err UnknownFlags) (Err (Cut at)) f o r w x y = absurd (let s = short_of f r x.0 y.3 in omega (arith, s, x.1))
same_behind (Err UnknownFlags) (Err TooManyOptions) f o r w x y = absurd (few_early f o w x.0 y)
same_behind (Err UnknownFlags) b f o r w x y = absurd y
same_behind (Err (BadMagic at)) (Ok Departure) f o r w x y = absurd (omega (arith, ap length y.1, x.3))
same_behind (Err (BadMagic at)) (Err UnknownFlags) f o r w x y = absurd (no_flags f y.0 x.1)
same_behind (Err (BadMagic at)) (Err (BadMagic other)) f o r w x y = ap (λ n. Err (BadMagic n)) (x.0 ∙ sym y.0)
same_behind (Err (BadMagic at)) (Err (Cut other)) f o r w x y = absurd (let p = part_of f r x.1 y.3 in x.4 (p.magic x.3))
same_behind (Err (BadMagic at)) (Err TooManyOptions) f o r w x y = absurd (omega (arith, x.2, y))
same_behind (Err (BadMagic at)) b f o r w x y = absurd y
same_behind (Err (Cut at)) (Ok Departure) f o r w x y = absurd (omega (arith, ap length y.1, x.2))
same_behind (Err (Cut at)) (Err UnknownFlags) f o r w x y = absurd (let s = short_of f r y.0 x.3 in omega (arith, s, y.1))
same_behind (Err (Cut at)) (Err (BadMagic other)) f o r w x y = absurd (let p = part_of f r y.1 x.3 in y.4 (p.magic y.3))
same_behind (Err (Cut at)) (Err (Cut other)) f o r w x y = ap (λ n. Err (Cut n)) (x.0 ∙ sym y.0)
same_behind (Err (Cut at)) (Err TooManyOptions) f o r w x y = absurd (omega (arith, x.1, y))
same_behind (Err (Cut at)) b f o r w x y = absurd y
same_behind (Err TooManyOptions) (Ok Departure) f o r w x y = absurd (omega (arith, y.0, x))
same_behind (Err TooManyOptions) (Err UnknownFlags) f o r w x y = absurd (few_early f o w y.0 x)
same_behind (Err TooManyOptions) (Err (BadMagic at)) f o r w x y = absurd (omega (arith, y.2, x))
same_behind (Err TooManyOptions) (Err (Cut at)) f o r w x y = absurd (omega (arith, y.1, x))
same_behind (Err TooManyOptions) (Err TooManyOptions) f o r w x y = refl
same_behind (Err TooManyOptions) b f o r w x y = absurd y
same_behind a b f o r w x y = absurd x

same_end : (a b : End) (flags : List ℕ) (options : List (List ℕ)) (rest : List ℕ) → MayFollow flags options → Ways a flags options rest → Ways b flags options rest → a ≡ b
same_end a b f o r w (inl x) (inl y) = ended_same a b o x y
same_end a b f o r w (inl x) (inr y) = absurd (not_both a o x y.0)
same_end a b f o r w (inr x) (inl y) = absurd (not_both b o y x.0)
same_end a b f o r w (inr x) (inr y) = same_behind a b f o r w x.1 y.1

-- ---- before the flags
-- where they never came whole, four bytes are no flags
early_unknown : (end : End) (flags : List ℕ) (options : List (List ℕ)) (rest : List ℕ) → flags ≡ [] → options ≡ [] → Ways end flags options rest → 4 ≤ length rest → are_known (flags_of rest) ≡ false
early_unknown end flags options rest none empty (inl x) long = absurd (omega (arith, ap length (sym empty ∙ x.last.all), length-append x.last.before (x.last.last ∷ [])))
early_unknown end flags options rest none empty (inr x) long = behind end x.1
  where
    behind : (e : End) → IsBehind e flags options rest → are_known (flags_of rest) ≡ false
    behind (Ok Departure) is = absurd (omega (arith, ap length is.1, long))
    behind (Err UnknownFlags) is = is.2
    behind (Err (BadMagic at)) is = absurd (no_flags flags none is.1)
    behind (Err (Cut at)) is = absurd (let s = short_of flags rest none is.3 in omega (arith, s, long))
    behind (Err TooManyOptions) is = absurd (omega (arith, ap length empty, is))
    behind e is = absurd is

not_early : (flags more rest : List ℕ) → AreFlags flags → rest ≡ flags ++ more → (4 ≤ length rest → are_known (flags_of rest) ≡ false) → ⊥
not_early flags more rest are e unknown =
    let long : 4 ≤ length rest = omega (arith, ap length e, length-append flags more, are.size) in
    let same : flags_of rest ≡ flags_of flags = ap flags_of e ∙ ap (λ xs. from_be_bytes w32 xs) (take-append-le 4 flags more (omega (arith, are.size))) in
    let both : true ≡ false = sym are.known ∙ ap are_known (sym same) ∙ unknown long in
    cc

alone_is : (flags : List ℕ) (options : List (List ℕ)) (rest input : List ℕ) → flags ≡ [] → options ≡ [] → input ≡ flags ++ (concat options ++ rest) → rest ≡ input
alone_is flags options rest input none empty e = sym (e ∙ ap (λ f. f ++ (concat options ++ rest)) none ∙ ap (λ os. concat os ++ rest) empty)

pub one_end : (a b : End) (input : List ℕ) → EndsSo a input → EndsSo b input → a ≡ b
one_end a b input x y = by_flags x.follow y.follow
  where
    there : Ways a x.flags x.options x.rest
    there = way_of a x.flags x.options x.rest x.follow x.last

    here : Ways b y.flags y.options y.rest
    here = way_of b y.flags y.options y.rest y.follow y.last

    same : x.flags ≡ y.flags → x.options ≡ y.options → x.rest ≡ y.rest → a ≡ b
    same f o r =
        same_end a b x.flags x.options x.rest x.follow there
        (subst (λ g. Ways b g x.options x.rest) (sym f) (subst (λ os. Ways b y.flags os x.rest) (sym o) (subst (λ z. Ways b y.flags y.options z) (sym r) here)))

    by_flags : MayFollow x.flags x.options → MayFollow y.flags y.options → a ≡ b
    by_flags (inl p) (inl q) =
        let both : x.flags ++ (concat x.options ++ x.rest) ≡ y.flags ++ (concat y.options ++ y.rest) = sym x.told ∙ y.told in
        let flags : x.flags ≡ y.flags = sym (take_at x.flags _ 4 p.size) ∙ ap (take 4) both ∙ take_at y.flags _ 4 q.size in
        let on : concat x.options ++ x.rest ≡ concat y.options ++ y.rest = sym (drop_at x.flags _ 4 p.size) ∙ ap (drop 4) both ∙ drop_at y.flags _ 4 q.size in
        let apart = comes_apart 0 x.options y.options x.rest y.rest x.whole y.whole (closes_of a x.flags x.options x.rest p x.few there) (closes_of b y.flags y.options y.rest q y.few here) on in
        same flags apart.options_are apart.rest_is
    by_flags (inl p) (inr q) =
        absurd (not_early x.flags (concat x.options ++ x.rest) y.rest p (alone_is y.flags y.options y.rest input q.0 q.1 y.told ∙ x.told) (early_unknown b y.flags y.options y.rest q.0 q.1 here))
    by_flags (inr p) (inl q) =
        absurd (not_early y.flags (concat y.options ++ y.rest) x.rest q (alone_is x.flags x.options x.rest input p.0 p.1 x.told ∙ y.told) (early_unknown a x.flags x.options x.rest p.0 p.1 there))
    by_flags (inr p) (inr q) =
        same (p.0 ∙ sym q.0) (p.1 ∙ sym q.1) (alone_is x.flags x.options x.rest input p.0 p.1 x.told ∙ sym (alone_is y.flags y.options y.rest input q.0 q.1 y.told))

-- ---- a handshake of an input ends as the input does
-- what a source that tells its bytes has left
record Gave (text bytes : List ℕ) (left_after : Option (List ℕ)) : Type 0 where
  pub after : List ℕ
  pub left : left_after ≡ Some after
  pub is : text ≡ bytes ++ after

gave : (text bytes : List ℕ) (left left_after : Option (List ℕ)) → left ≡ Some text → Consumes left left_after bytes → Gave text bytes left_after
gave text bytes None left_after e c = absurd cc
gave text bytes (Some xs) None e c = absurd c
gave text bytes (Some xs) (Some ys) e c = record { after = ys; left = refl; is = (let same : xs ≡ text = cc in sym same ∙ c) }

at_end : (bytes after : List ℕ) (left_after : Option (List ℕ)) → left_after ≡ Some after → IsAtEnd left_after → bytes ≡ bytes ++ after
at_end bytes after left_after e ended =
    let nothing : after ≡ [] = subst IsAtEnd e ended in
    sym (append-nil bytes) ∙ ap (λ z. bytes ++ z) (sym nothing)

rest_of : (end : End) (flags : List ℕ) (options : List (List ℕ)) (bytes after : List ℕ) (left_after : Option (List ℕ)) → left_after ≡ Some after → (end ≢ Err ReadFault) × (end ≢ Err WriteFault)
    → IsEnd end flags options bytes left_after → IsRest end flags options (bytes ++ after)
rest_of (Ok Transmission) f o bytes after l e calm is = (is.0, is.1)
rest_of (Ok Departure) f o bytes after l e calm (none, inl is) = inl is
rest_of (Ok Departure) f o bytes after l e calm (none, inr is) = inr (is.0, sym (at_end bytes after l e is.1) ∙ none)
rest_of (Err UnknownFlags) f o bytes after l e calm is =
    (is.0, omega (arith, is.1, length-append bytes after), ap (λ xs. are_known (from_be_bytes w32 xs)) (take-append-le 4 bytes after (omega (arith, is.1))) ∙ is.2)
rest_of (Err (BadMagic at)) f o bytes after l e calm is =
    (is.0, is.1, is.2, omega (arith, is.3, length-append bytes after), λ same. is.4 (sym (take-append-le 8 bytes after (omega (arith, is.3))) ∙ same))
rest_of (Err (Cut at)) f o bytes after l e calm is =
    (is.0, is.1, omega (arith, is.2, length-append bytes after), subst (IsCut f) (at_end bytes after l e is.4) is.3)
rest_of (Err (UnknownExport at)) f o bytes after l e calm is = (is.0, is.1, is.2)
rest_of (Err TooManyOptions) f o bytes after l e calm is = (is.0, is.1)
rest_of (Err ReadFault) f o bytes after l e calm is = absurd (calm.0 refl)
rest_of (Err WriteFault) f o bytes after l e calm is = absurd (calm.1 refl)

pub completes : (e : Export) (input : List ℕ) (left left_after taken taken_after : Option (List ℕ)) → left ≡ Some input → (end : End) → EndsSo end input → (result : End) → IsHandshake e result left left_after taken taken_after
    → result ≢ Err ReadFault → result ≢ Err WriteFault → result ≡ end
completes e input left left_after taken taken_after told end is result h reads writes =
    let after = gave input (h.flags ++ (concat h.options ++ h.rest)) left left_after told h.gave in
    one_end result end input (record {
      flags = h.flags;
      options = h.options;
      rest = h.rest ++ after.after;
      follow = h.follow;
      whole = h.whole;
      few = h.few;
      told = after.is ∙ append_assoc h.flags (concat h.options ++ h.rest) after.after ∙ ap (λ z. h.flags ++ z) (append_assoc (concat h.options) h.rest after.after);
      last = rest_of result h.flags h.options h.rest after.after left_after after.left (reads, writes) h.ended;
    }) is
