-- Turns of a handshake: what was read, and what came of it.
use Rattle.std.proofs.Common.{◌≡◌, ℕ, Bool, List, ◌++◌, length, refl, sym, ◌∙◌, ap, subst, arith, inl, inr, length-append, Option, Result, Ok, Err}
use Rattle.std.specs.Io.KnownBytes.{Consumes}
use Rattle.outside_io.specs.Written.{Adds, TakesPrefix}
use Rattle.outside_io.proofs.lemmas.Known.{Consumes-then}
use Rattle.nbd_handshake.specs.declared.export.Export.{Export}
use Rattle.nbd_handshake.specs.declared.arrival.Head.{Head}
use Rattle.nbd_handshake.specs.declared.arrival.Arrival.TheVariants as arrivals
use Rattle.nbd_handshake.specs.declared.course.Course.{Course}
use Rattle.nbd_handshake.specs.declared.course.Course.TheVariants as courses
use Rattle.nbd_handshake.specs.declared.turn.Turn.{Turn}
use Rattle.nbd_handshake.specs.declared.turn.Turn.TheVariants as turns
use Rattle.nbd_handshake.specs.declared.ending.HandshakeFault.{HandshakeFault}
use Rattle.nbd_handshake.specs.declared.ending.HandshakeFault.TheVariants.{ReadFault, WriteFault, UnknownFlags, BadMagic, Cut, UnknownExport, TooManyOptions}
use Rattle.nbd_handshake.specs.Options.{option_of, course_of}
use Rattle.nbd_handshake.specs.Replies.{reply_to}
use Rattle.nbd_handshake.specs.Steps.{asked, Goes, IsCutShort, HasArrived, HasBegun, HasCome, IsAnsweredSo, HasStepped}
use Rattle.nbd_handshake.proofs.Parts.{is_option, is_part, is_asked, is_short}
use Rattle.nbd_handshake.proofs.Going.{Adds-none}

module _ (e : Export) (short : Bool) (place : ℕ) (left left_after taken : Option (List ℕ)) where
  abbrev Stepped : Result Turn HandshakeFault → Type 0
  Stepped r = HasStepped e short place left left_after taken taken r

  pub not_read : HasBegun left left_after → Stepped (Err ReadFault)
  not_read begun = (begun, Adds-none taken)

  pub none_came : HasArrived left left_after arrivals.Nothing → Stepped (Ok turns.Leave)
  none_came a = inr (subst (Consumes left left_after) a.2.0 a.1, a.2.1, Adds-none taken)

  pub wrong_came : HasArrived left left_after arrivals.Wrong → Stepped (Err (BadMagic place))
  wrong_came a = (refl, a.0, a.1, a.2.0, a.2.1, Adds-none taken)

  pub part_came : HasArrived left left_after arrivals.Cut → Stepped (Err (Cut place))
  part_came a = (refl, a.0, a.1, a.2.0, is_short a.0 a.2.1 a.2.2, a.2.3, Adds-none taken)

  -- its data were cut
  pub cut_came : (h : Head) (mid : Option (List ℕ)) → HasArrived left mid (arrivals.Head h) → IsCutShort h.len mid left_after → Stepped (Err (Cut place))
  cut_came h mid a cut =
      (refl, a.0 ++ cut.0, Consumes-then left mid left_after a.0 cut.0 a.1 cut.1, omega (arith, a.2.size, length-append a.0 cut.0), is_part h a.0 cut.0 a.2 cut.2, cut.3, Adds-none taken)

-- a whole option came, and was answered
module _ (e : Export) (short : Bool) (place : ℕ) (left mid left_after taken taken_after : Option (List ℕ)) (h : Head) (a : HasArrived left mid (arrivals.Head h))
    (bytes : List ℕ) (gave : Consumes mid left_after bytes) (all : length bytes ≡ h.len) where
  abbrev whole : List ℕ
  whole = a.0 ++ bytes

  same : option_of whole ≡ asked h bytes
  same = is_asked h a.0 bytes a.2 all

  come : (course : Course) → Goes h bytes course → HasCome left left_after course whole
  come course goes = record {
    gave = Consumes-then left mid left_after a.0 bytes a.1 gave;
    whole = is_option h a.0 bytes a.2 all;
    goes = ap course_of same ∙ goes;
  }

  reply_is : reply_to e short (asked h bytes) ≡ reply_to e short (option_of whole)
  reply_is = ap (reply_to e short) (sym same)

  took : Adds taken taken_after (reply_to e short (asked h bytes)) → Adds taken taken_after (reply_to e short (option_of whole))
  took adds = subst (Adds taken taken_after) reply_is adds

  pub came : (r : Result Turn HandshakeFault) → IsAnsweredSo e short place h bytes taken taken_after r → HasStepped e short place left left_after taken taken_after r
  came (Ok (turns.More len)) p = (whole, come courses.More p.0, took p.1, omega (arith, p.2, a.2.size, all, length-append a.0 bytes))
  came (Ok turns.Transmit) p = (whole, come courses.Transmit p.0, took p.1)
  came (Ok turns.Leave) p = inl (whole, come courses.Leave p.0, took p.1)
  came (Err (UnknownExport at)) p = (p.0, whole, come courses.Unknown p.1, p.2)
  came (Err WriteFault) p = (course_of (asked h bytes), whole, come (course_of (asked h bytes)) refl, subst (TakesPrefix taken taken_after) reply_is p)
  came (Err ReadFault) p = absurd p
  came (Err UnknownFlags) p = absurd p
  came (Err (BadMagic at)) p = absurd p
  came (Err (Cut at)) p = absurd p
  came (Err TooManyOptions) p = absurd p
