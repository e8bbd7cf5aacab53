-- The beginning of a handshake: the greeting, and the client's flags.
use Rattle.std.proofs.Common.{◌≡◌, ℕ, Bool, List, [], ◌++◌, refl, sym, subst, arith, inl, inr, Option, Ok, Err}
use Rattle.std.proofs.lemmas.List.{append-nil}
use Rattle.std.proofs.lemmas.List.Elements.{All-nil}
use Rattle.std.specs.List.{concat}
use Rattle.std.specs.Io.KnownBytes.{Consumes, IsAtEnd}
use Rattle.outside_io.specs.Written.{Adds, TakesPrefix}
use Rattle.outside_io.proofs.lemmas.Known.{Consumes-none, Consumes-then}
use Rattle.nbd_handshake.specs.declared.export.Export.{Export}
use Rattle.nbd_handshake.specs.declared.course.Course.TheVariants as courses
use Rattle.nbd_handshake.specs.declared.ending.HandshakeFault.{HandshakeFault}
use Rattle.nbd_handshake.specs.declared.ending.Agreement.TheVariants.{Departure}
use Rattle.nbd_handshake.specs.declared.ending.HandshakeFault.TheVariants.{ReadFault, WriteFault, UnknownFlags, BadMagic, Cut, UnknownExport, TooManyOptions}
use Rattle.nbd_handshake.specs.Options.{flags_of, leaves_zeros_out, IsOption}
use Rattle.nbd_handshake.specs.Replies.{greeting, replies}
use Rattle.nbd_handshake.specs.Steps.{HaveNotCome}
use Rattle.nbd_handshake.specs.Handshakes.{End, Goes, AreOpen, AreFlags, IsEnd, IsHaggle, IsHandshake, HasTaken}
use Rattle.nbd_handshake.proofs.Going.{Adds-then, Adds-prefix}

none_open : AreOpen []
none_open = record { more = All-nil (Goes courses.More); few = omega arith }

module _ (e : Export) (left left_after taken taken_after : Option (List ℕ)) where
  -- it ended before the client's flags had come
  ends_early : (end : End) (bytes : List ℕ) → Consumes left left_after bytes → IsEnd end [] [] bytes left_after → HasTaken end (greeting ++ []) taken taken_after → IsHandshake e end left left_after taken taken_after
  ends_early end bytes gave is said = record {
    flags = [];
    options = [];
    rest = bytes;
    follow = inr (refl, refl);
    whole = All-nil IsOption;
    few = omega arith;
    gave = gave;
    ended = is;
    said = said;
  }

  module _ (greeted : Adds taken taken_after greeting) where
    greeted_whole : Adds taken taken_after (greeting ++ [])
    greeted_whole = subst (Adds taken taken_after) (sym (append-nil greeting)) greeted

    pub nobody_came : Consumes left left_after [] → IsAtEnd left_after → IsHandshake e (Ok Departure) left left_after taken taken_after
    nobody_came gave ended = ends_early (Ok Departure) [] gave (refl, inr (none_open, ended)) greeted_whole

    pub not_flagged : (fault : HandshakeFault) → HaveNotCome fault left left_after → IsHandshake e (Err fault) left left_after taken taken_after
    not_flagged ReadFault h = ends_early (Err ReadFault) h.0 h.1 (none_open, h.2) greeted_whole
    not_flagged (Cut at) h = ends_early (Err (Cut at)) h.1 h.2 (h.0, none_open, h.3, h.4, h.5) greeted_whole
    not_flagged UnknownFlags h = ends_early (Err UnknownFlags) h.0 h.1 (refl, h.2, h.3) greeted_whole
    not_flagged WriteFault h = absurd h
    not_flagged (BadMagic at) h = absurd h
    not_flagged (UnknownExport at) h = absurd h
    not_flagged TooManyOptions h = absurd h

pub not_greeted : (e : Export) (left taken taken_after : Option (List ℕ)) → TakesPrefix taken taken_after greeting → IsHandshake e (Err WriteFault) left left taken taken_after
not_greeted e left taken taken_after prefix =
    ends_early e left left taken taken_after (Err WriteFault) [] (Consumes-none left) refl (subst (TakesPrefix taken taken_after) (sym (append-nil greeting)) prefix)

pub no_write : (fault : HandshakeFault) (left left_after : Option (List ℕ)) → fault ≡ WriteFault → HaveNotCome fault left left_after → ⊥
no_write fault left left_after is h = subst (λ (f : HandshakeFault). HaveNotCome f left left_after) is h

-- options follow known flags
module _ (e : Export) (short : Bool) (left mid left_after taken greeted taken_after : Option (List ℕ)) (adds : Adds taken greeted greeting) where
  said_after : (end : End) (text : List ℕ) → HasTaken end text greeted taken_after → HasTaken end (greeting ++ text) taken taken_after
  said_after (Err WriteFault) text t = Adds-prefix taken greeted taken_after greeting text adds t
  said_after (Err ReadFault) text t = Adds-then taken greeted taken_after greeting text adds t
  said_after (Err UnknownFlags) text t = Adds-then taken greeted taken_after greeting text adds t
  said_after (Err (BadMagic at)) text t = Adds-then taken greeted taken_after greeting text adds t
  said_after (Err (Cut at)) text t = Adds-then taken greeted taken_after greeting text adds t
  said_after (Err (UnknownExport at)) text t = Adds-then taken greeted taken_after greeting text adds t
  said_after (Err TooManyOptions) text t = Adds-then taken greeted taken_after greeting text adds t
  said_after (Ok agreement) text t = Adds-then taken greeted taken_after greeting text adds t

  pub flagged : (flags : List ℕ) → Consumes left mid flags → AreFlags flags → short ≡ leaves_zeros_out (flags_of flags) → (end : End) → IsHaggle e short end mid left_after greeted taken_after
      → IsHandshake e end left left_after taken taken_after
  flagged flags gave are is end h = record {
    flags = flags;
    options = h.options;
    rest = h.rest;
    follow = inl are;
    whole = h.whole;
    few = h.few;
    gave = Consumes-then left mid left_after flags (concat h.options ++ h.rest) gave h.gave;
    ended = h.ended flags are;
    said = subst (λ (s : Bool). HasTaken end (greeting ++ replies e s h.options) taken taken_after) is (said_after end (replies e short h.options) h.said);
  }
