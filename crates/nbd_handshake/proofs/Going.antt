-- A handshake that goes on by an option, and how it ends.
use Rattle.std.proofs.Common.{◌≡◌, ℕ, ◌+◌, ◌*◌, ◌^◌, ◌<◌, ◌≤◌, Bool, List, [], ◌∷◌, ◌++◌, length, refl, sym, ◌∙◌, ap, subst, arith, inl, inr, length-append, append_assoc, Option, Some, None, Ok, Err}
use Rattle.std.proofs.lemmas.List.{append-nil}
use Rattle.std.proofs.lemmas.List.Elements.{All-append, All-cons, All-nil}
use Rattle.std.proofs.lemmas.List.Folds.{concat-append}
use Rattle.std.proofs.lemmas.Grind.{flat_map-append}
use Rattle.std.specs.List.{All, concat}
use Rattle.std.specs.Io.KnownBytes.{Consumes}
use Rattle.outside_io.specs.Written.{Adds, TakesPrefix}
use Rattle.outside_io.proofs.lemmas.Known.{Consumes-then}
use Rattle.nbd_handshake.specs.declared.export.Export.{Export}
use Rattle.nbd_handshake.specs.declared.course.Course.{Course}
use Rattle.nbd_handshake.specs.declared.course.Course.TheVariants as courses
use Rattle.nbd_handshake.specs.declared.turn.Turn.TheVariants as turns
use Rattle.nbd_handshake.specs.declared.ending.HandshakeFault.{HandshakeFault}
use Rattle.nbd_handshake.specs.declared.ending.Agreement.TheVariants.{Transmission, Departure}
use Rattle.nbd_handshake.specs.declared.ending.HandshakeFault.TheVariants.{ReadFault, WriteFault, UnknownFlags, BadMagic, Cut, UnknownExport, TooManyOptions}
use Rattle.nbd_handshake.specs.Numbers.{most_options}
use Rattle.nbd_handshake.specs.Options.{option_of, IsOption, IsPart}
use Rattle.nbd_handshake.specs.Replies.{reply_to, replies}
use Rattle.nbd_handshake.specs.Steps.{HasStepped, IsAnswered}
use Rattle.nbd_handshake.specs.Handshakes.{End, Goes, GoOn, AreOpen, EndsWith, AreFlags, IsCut, IsEnd, IsHaggle, HasTaken}

pub Adds-none : (a : Option (List ℕ)) → Adds a a []
Adds-none None = tt
Adds-none (Some xs) = sym (append-nil xs)

pub Adds-then : (a b c : Option (List ℕ)) (xs ys : List ℕ) → Adds a b xs → Adds b c ys → Adds a c (xs ++ ys)
Adds-then a b None xs ys h k = tt
Adds-then a None (Some n) xs ys h k = absurd k
Adds-then None (Some m) (Some n) xs ys h k = absurd h
Adds-then (Some l) (Some m) (Some n) xs ys h k = k ∙ ap (λ z. z ++ ys) h ∙ append_assoc l xs ys

pub Adds-prefix : (a b c : Option (List ℕ)) (xs ys : List ℕ) → Adds a b xs → TakesPrefix b c ys → TakesPrefix a c (xs ++ ys)
Adds-prefix a b c xs ys h k = (xs ++ k.0, k.1, ap (λ z. xs ++ z) k.2 ∙ sym (append_assoc xs k.0 k.1), Adds-then a b c xs k.0 h k.3)

Adds-same : (a b c : Option (List ℕ)) (xs : List ℕ) → Adds a b xs → Adds b c [] → Adds a c xs
Adds-same a b c xs h k = subst (λ z. Adds a c z) (append-nil xs) (Adds-then a b c xs [] h k)

-- what a handshake has come to behind its flags
pub record HasGone (e : Export) (short : Bool) (count place : ℕ) (left left_now taken taken_now : Option (List ℕ)) : Type 0 where
  pub options : List (List ℕ)
  pub whole : All IsOption options
  pub more : GoOn options
  pub gave : Consumes left left_now (concat options)
  pub counted : count ≡ length options
  pub place_is : place ≡ 4 + length (concat options)
  pub near : place ≤ 4 + count * (2 ^ 32 + 16)
  pub said : Adds taken taken_now (replies e short options)

pub begun : (e : Export) (short : Bool) (left taken : Option (List ℕ)) → Consumes left left [] → HasGone e short 0 4 left left taken taken
begun e short left taken none = record { options = []; whole = All-nil IsOption; more = All-nil (Goes courses.More); gave = none; counted = refl; place_is = refl; near = omega arith; said = Adds-none taken }

pub concat_more : (options : List (List ℕ)) (bytes : List ℕ) → concat (options ++ bytes ∷ []) ≡ concat options ++ bytes
concat_more options bytes = concat-append options (bytes ∷ []) ∙ ap (λ z. concat options ++ z) (append-nil bytes)

replies_more : (e : Export) (short : Bool) (options : List (List ℕ)) (bytes : List ℕ) → replies e short (options ++ bytes ∷ []) ≡ replies e short options ++ reply_to e short (option_of bytes)
replies_more e short options bytes =
    flat_map-append (λ b. reply_to e short (option_of b)) options (bytes ∷ [])
    ∙ ap (λ z. replies e short options ++ z) (append-nil (reply_to e short (option_of bytes)))

pub all_more : (options : List (List ℕ)) (bytes : List ℕ) → All IsOption options → IsOption bytes → All IsOption (options ++ bytes ∷ [])
all_more options bytes whole is = All-append IsOption options (bytes ∷ []) whole (All-cons IsOption bytes [] is (All-nil IsOption))

-- what is a part of an option is cut behind flags
pub cut_of : (flags bytes : List ℕ) → AreFlags flags → IsPart bytes → IsCut flags bytes
cut_of [] bytes are part = absurd (omega (arith, are.size))
cut_of (flag ∷ flags) bytes are part = part

-- an EXPORT_NAME of an export that isn't there has no reply
no_reply : (e : Export) (short : Bool) (bytes : List ℕ) → Goes courses.Unknown bytes → reply_to e short (option_of bytes) ≡ []
no_reply e short bytes goes = grind (arith, goes)

module _ (e : Export) (short : Bool) (count place : ℕ) (left left_now left_next taken taken_now taken_next : Option (List ℕ))
    (h : HasGone e short count place left left_now taken taken_now) where
  said_more : (bytes : List ℕ) → Adds taken_now taken_next (reply_to e short (option_of bytes)) → Adds taken taken_next (replies e short (h.options ++ bytes ∷ []))
  said_more bytes adds = subst (λ z. Adds taken taken_next z) (sym (replies_more e short h.options bytes)) (Adds-then _ _ _ (replies e short h.options) _ h.said adds)

  gave_more : (bytes : List ℕ) → Consumes left_now left_next bytes → Consumes left left_next (concat (h.options ++ bytes ∷ []))
  gave_more bytes gave = subst (λ z. Consumes left left_next z) (sym (concat_more h.options bytes)) (Consumes-then _ _ _ (concat h.options) bytes h.gave gave)

  gave_last : (bytes : List ℕ) → Consumes left_now left_next bytes → Consumes left left_next (concat (h.options ++ bytes ∷ []) ++ [])
  gave_last bytes gave = subst (λ z. Consumes left left_next z) (sym (append-nil (concat (h.options ++ bytes ∷ [])))) (gave_more bytes gave)

  -- one option more
  pub goes_on : (len : ℕ) → len < 2 ^ 32 + 16 → HasStepped e short place left_now left_next taken_now taken_next (Ok (turns.More len))
      → HasGone e short (count + 1) (place + len) left left_next taken taken_next
  goes_on len near s =
      let bytes = s.0 in
      record {
        options = h.options ++ bytes ∷ [];
        whole = all_more h.options bytes h.whole s.1.whole;
        more = All-append (Goes courses.More) h.options (bytes ∷ []) h.more (All-cons (Goes courses.More) bytes [] s.1.goes (All-nil (Goes courses.More)));
        gave = gave_more bytes s.1.gave;
        counted = omega (arith, h.counted, length-append h.options (bytes ∷ []));
        place_is = omega (arith, h.place_is, s.3, ap length (concat_more h.options bytes), length-append (concat h.options) bytes);
        near = omega (arith, h.near, near);
        said = said_more bytes s.2;
      }

  module _ (few : count < most_options) where
    few_more : (bytes : List ℕ) → length (h.options ++ bytes ∷ []) ≤ most_options
    few_more bytes = omega (arith, few, h.counted, length-append h.options (bytes ∷ []))

    last_of : (course : Course) (bytes : List ℕ) → Goes course bytes → EndsWith course (h.options ++ bytes ∷ []) (length (concat h.options))
    last_of course bytes goes = record { before = h.options; last = bytes; all = refl; more = h.more; goes = goes; begins = refl }

    pub agreed : IsAnswered e short left_now left_next taken_now taken_next courses.Transmit → IsHaggle e short (Ok Transmission) left left_next taken taken_next
    agreed s = record {
      options = h.options ++ s.0 ∷ [];
      rest = [];
      whole = all_more h.options s.0 h.whole s.1.whole;
      few = few_more s.0;
      gave = gave_last s.0 s.1.gave;
      ended = λ flags are. (length (concat h.options), last_of courses.Transmit s.0 s.1.goes, refl);
      said = said_more s.0 s.2;
    }

    pub aborted : IsAnswered e short left_now left_next taken_now taken_next courses.Leave → IsHaggle e short (Ok Departure) left left_next taken taken_next
    aborted s = record {
      options = h.options ++ s.0 ∷ [];
      rest = [];
      whole = all_more h.options s.0 h.whole s.1.whole;
      few = few_more s.0;
      gave = gave_last s.0 s.1.gave;
      ended = λ flags are. (refl, inl (length (concat h.options), last_of courses.Leave s.0 s.1.goes));
      said = said_more s.0 s.2;
    }

    open_here : AreOpen h.options
    open_here = record { more = h.more; few = omega (arith, few, h.counted) }

    -- the end behind these options, where these bytes follow them
    ends_here : (end : End) (bytes : List ℕ) → Consumes left_now left_next bytes → Adds taken_now taken_next []
        → ((flags : List ℕ) → AreFlags flags → IsEnd end flags h.options bytes left_next)
        → (Adds taken taken_next (replies e short h.options) → HasTaken end (replies e short h.options) taken taken_next)
        → IsHaggle e short end left left_next taken taken_next
    ends_here end bytes gave adds is said = record {
      options = h.options;
      rest = bytes;
      whole = h.whole;
      few = omega (arith, few, h.counted);
      gave = Consumes-then _ _ _ (concat h.options) bytes h.gave gave;
      ended = is;
      said = said (Adds-same _ _ _ (replies e short h.options) h.said adds);
    }

    pub departed : HasStepped e short place left_now left_next taken_now taken_next (Ok turns.Leave) → IsHaggle e short (Ok Departure) left left_next taken taken_next
    departed (inl s) = aborted s
    departed (inr s) = ends_here (Ok Departure) [] s.0 s.2 (λ flags are. (refl, inr (open_here, s.1))) (λ said. said)

    pub failed : (fault : HandshakeFault) → HasStepped e short place left_now left_next taken_now taken_next (Err fault) → IsHaggle e short (Err fault) left left_next taken taken_next
    failed (BadMagic at) s = ends_here (Err (BadMagic at)) s.1 s.2 s.5 (λ flags are. (s.0 ∙ h.place_is, are, open_here, s.3, s.4)) (λ said. said)
    failed (Cut at) s =
        ends_here (Err (Cut at)) s.1 s.2 s.6 (λ flags are. (omega (arith, s.0, h.place_is, are.size), open_here, s.3, cut_of flags s.1 are s.4, s.5)) (λ said. said)
    failed ReadFault s = ends_here (Err ReadFault) s.0.0 s.0.1 s.1 (λ flags are. (open_here, cut_of flags s.0.0 are s.0.2)) (λ said. said)
    failed (UnknownExport at) s = record {
      options = h.options ++ s.1 ∷ [];
      rest = [];
      whole = all_more h.options s.1 h.whole s.2.whole;
      few = few_more s.1;
      gave = gave_last s.1 s.2.gave;
      ended = λ flags are. (length (concat h.options), s.0 ∙ h.place_is, last_of courses.Unknown s.1 s.2.goes, refl);
      said = said_more s.1 (subst (λ z. Adds taken_now taken_next z) (sym (no_reply e short s.1 s.2.goes)) s.3);
    }
    failed WriteFault s = record {
      options = h.options ++ s.1 ∷ [];
      rest = [];
      whole = all_more h.options s.1 h.whole s.2.whole;
      few = few_more s.1;
      gave = gave_last s.1 s.2.gave;
      ended = λ flags are. refl;
      said = subst (λ z. TakesPrefix taken taken_next z) (sym (replies_more e short h.options s.1)) (Adds-prefix _ _ _ (replies e short h.options) _ h.said s.3);
    }
    failed UnknownFlags s = absurd s
    failed TooManyOptions s = absurd s

  -- there were too many options
  pub many : count ≡ most_options → left_next ≡ left_now → taken_next ≡ taken_now → IsHaggle e short (Err TooManyOptions) left left_next taken taken_next
  many all source sink = record {
    options = h.options;
    rest = [];
    whole = h.whole;
    few = omega (arith, all, h.counted);
    gave = subst (λ z. Consumes left left_next z) (sym (append-nil (concat h.options))) (subst (λ l. Consumes left l (concat h.options)) (sym source) h.gave);
    ended = λ flags are. (sym h.counted ∙ all, h.more, refl);
    said = subst (λ t. Adds taken t (replies e short h.options)) (sym sink) h.said;
  }
