-- What holds in every world of a run of lines.
use Rattle.std.proofs.Common.{◌≡◌, ℕ, ◌<◌, List, [], ◌∷◌, Option, refl, arith}
use Rattle.std.specs.Prelude.{slice_get}
use Rattle.std.specs.declared.option.Option.TheVariants.{None, Some}
use Rattle.protocol.specs.Messages.{Message}
use Rattle.protocol.specs.Setting.{Setting, IsValid}
use Rattle.protocol.specs.Operations.{Task}
use Rattle.protocol.specs.World.{World, Event, Allowed, AllAllowed, all_happen, happens, start_world}
use Rattle.protocol.specs.Lines.{Line, Rule, events, plays, called, falsely_told, false_answer, told, given_at, heard_at, FitsLine, fault, Run}
use Rattle.run_words.specs.declared.line.Line.TheVariants.{Write, Read, Resend, Call, Give, Hear, Lost, CrashNode, CrashClient, Lie, Tell, Poke, False, Sound, Mix, Prune, Back, Restart}
use Rattle.protocol.proofs.Invariant.{IsSafe}
use Rattle.protocol.proofs.lemmas.Sending.{only_safe}
use Rattle.protocol.proofs.Runs.{happens_safe, start_safe}
use Rattle.protocol.proofs.Origins.{HasOrigins}
use Rattle.protocol.proofs.RunOrigins.{happens_origins, start_origins, only_origins}
use Rattle.protocol.proofs.Apart.{IsApart, IsBefore, before_place, happens_apart}
use Rattle.protocol.specs.Bounds.{IsLow}
use Rattle.protocol.proofs.RunRounds.{HasRounds, start_rounds, happens_rounds}
use Rattle.protocol.proofs.RunTimes.{start_low, happens_low, happens_writes, KeepsWrites}
use Rattle.protocol.proofs.lemmas.Playing.{no_fault, events_allowed}
use Rattle.protocol.proofs.Growing.{all_place}
use Rattle.lists.proofs.lemmas.Members.{Contains-none}

module _ (s : Setting) (good : IsValid s) where
  pub record IsRight (w : World) : Type 0 where
    pub safe : IsSafe s w
    pub origins : HasOrigins s w
    pub apart : IsApart w.records
    pub rounds : HasRounds w
    pub low : IsLow s w

  pub start_right : IsRight (start_world s)
  start_right = record {
    safe = start_safe s good;
    origins = start_origins s;
    apart = record { starts = λ x y h. absurd (Contains-none x h); ends = λ x y end h. absurd (Contains-none x h) };
    rounds = start_rounds s;
    low = start_low s;
  }

  -- what events keep that leave the records
  record IsKept (w : World) (place : ℕ) : Type 0 where
    safe : IsSafe s w
    origins : HasOrigins s w
    apart : IsApart w.records
    rounds : HasRounds w
    low : IsLow s w
    early : IsBefore w.records place

  one_event : (w : World) (place : ℕ) → IsKept w place → (e : Event) → Allowed s w place e → IsRight (happens s w place e)
  one_event w place k e h = record {
    safe = happens_safe s good w k.safe place e h;
    origins = happens_origins s good w k.safe k.origins place e h;
    apart = happens_apart s w k.safe k.origins k.apart place k.early e h;
    rounds = happens_rounds s good w k.safe k.rounds place e h;
    low = happens_low s good w k.safe k.origins place k.low e h;
  }

  kept_event : (w : World) (place : ℕ) → IsKept w place → (e : Event) → Allowed s w place e → (happens s w place e).records ≡ w.records → IsKept (happens s w place e) place
  kept_event w place k e h same = let r = one_event w place k e h in record { safe = r.safe; origins = r.origins; apart = r.apart; rounds = r.rounds; low = r.low; early = rw same k.early }

  -- the events of a line: all but the last leave the records
  abbrev pub IsQuick : World → ℕ → List Event → Type 0
  IsQuick w place [] = Unit {0}
  IsQuick w place (e ∷ []) = Unit {0}
  IsQuick w place (e ∷ f ∷ es) = ((happens s w place e).records ≡ w.records) × IsQuick (happens s w place e) place (f ∷ es)

  all_events : (es : List Event) (w : World) (place : ℕ) → IsKept w place → AllAllowed s w place es → IsQuick w place es → IsRight (all_happen s w place es)
  all_events [] w place k h q = record { safe = k.safe; origins = k.origins; apart = k.apart; rounds = k.rounds; low = k.low }
  all_events (e ∷ []) w place k h q = one_event w place k e h.0
  all_events (e ∷ f ∷ es) w place k h q = all_events (f ∷ es) (happens s w place e) place (kept_event w place k e h.0 q.0) h.1 q.1

  called_quick : (w : World) (place c i : ℕ) (o : Option Task) → IsQuick w place (called s w c i o)
  called_quick w place c i None = tt
  called_quick w place c i (Some task) = (refl, tt)

  told_quick : (w : World) (place c : ℕ) (m : Option Message) → IsQuick w place (told s w c m)
  told_quick w place c None = tt
  told_quick w place c (Some m) = (refl, tt)

  false_quick : (w : World) (place : ℕ) (rule : Rule) (c i : ℕ) (o : Option Task) → IsQuick w place (falsely_told s w rule c i o)
  false_quick w place rule c i None = tt
  false_quick w place rule c i (Some task) = told_quick w place c (false_answer s rule c i task)

  given_quick : (w : World) (place i : ℕ) (o : Option Message) → IsQuick w place (given_at s w i o)
  given_quick w place i None = tt
  given_quick w place i (Some m) = tt

  heard_quick : (w : World) (place c : ℕ) (o : Option Message) → IsQuick w place (heard_at s w c o)
  heard_quick w place c None = tt
  heard_quick w place c (Some m) = tt

  quick : (w : World) (place : ℕ) (line : Line) → IsQuick w place (events s w line)
  quick w place (Write c block value) = tt
  quick w place (Read c block) = tt
  quick w place (Resend c) = tt
  quick w place (Call c i) = called_quick w place c i (w.task c)
  quick w place (Give i k) = given_quick w place i (slice_get w.pool k)
  quick w place (Hear c k) = heard_quick w place c (slice_get w.pool k)
  quick w place (Lost c i) = tt
  quick w place (CrashNode i) = tt
  quick w place (CrashClient c) = tt
  quick w place (Lie m) = tt
  quick w place (Tell m) = (refl, tt)
  quick w place (Poke m) = (refl, tt)
  quick w place (False c i rule) = false_quick w place rule c i (w.task c)
  quick w place (Sound c i block time value) = (refl, tt)
  quick w place (Mix c i block time value other) = (refl, tt)
  quick w place (Prune i block) = tt
  quick w place (Back c) = tt
  quick w place (Restart i) = tt

  pub plays_right : (w : World) → IsRight w → (place : ℕ) → w.place < place → (line : Line) → FitsLine s line → fault s w line ≡ None → IsRight (plays s w place line)
  plays_right w right place l line fits fine =
      let k : IsKept w place = record { safe = right.safe; origins = right.origins; apart = right.apart; rounds = right.rounds; low = right.low; early = before_place s w right.safe place l } in
      let r = all_events (events s w line) w place k (events_allowed s good w right.safe place l line fits (no_fault s w line fine)) (quick w place line) in
      let last = all_place s (events s w line) w place (omega (arith, l)) in
      record {
        safe = only_safe s (all_happen s w place (events s w line)) r.safe place last;
        origins = only_origins s good (all_happen s w place (events s w line)) r.safe r.origins place last;
        apart = r.apart;
        rounds = record { tasks = r.rounds.tasks; gave = r.rounds.gave };
        low = record { chosen = r.low.chosen; spent = r.low.spent };
      }

  pub run_right : (ls : List (ℕ × Line)) (w last : World) → IsRight w → Run s w ls last → IsRight last
  run_right [] w last r h = rw h r
  run_right (l ∷ ls) w last r h = run_right ls (plays s w l.0 l.1) last (plays_right w r l.0 h.0 l.1 h.1 h.2) h.3

  -- a write that chose a stamp keeps it
  all_writes : (es : List Event) (w : World) (place : ℕ) → IsKept w place → AllAllowed s w place es → IsQuick w place es → KeepsWrites w.records (all_happen s w place es).records
  all_writes [] w place k h q = λ block stamp x. x
  all_writes (e ∷ []) w place k h q = happens_writes s good w k.safe k.origins place e h.0
  all_writes (e ∷ f ∷ es) w place k h q = λ block stamp x.
      all_writes (f ∷ es) (happens s w place e) place (kept_event w place k e h.0 q.0) h.1 q.1 block stamp (happens_writes s good w k.safe k.origins place e h.0 block stamp x)

  plays_writes : (w : World) → IsRight w → (place : ℕ) → w.place < place → (line : Line) → FitsLine s line → fault s w line ≡ None → KeepsWrites w.records (plays s w place line).records
  plays_writes w right place l line fits fine =
      let k : IsKept w place = record { safe = right.safe; origins = right.origins; apart = right.apart; rounds = right.rounds; low = right.low; early = before_place s w right.safe place l } in
      all_writes (events s w line) w place k (events_allowed s good w right.safe place l line fits (no_fault s w line fine)) (quick w place line)

  pub run_writes : (ls : List (ℕ × Line)) (w last : World) → IsRight w → Run s w ls last → KeepsWrites w.records last.records
  run_writes [] w last r h = rw h (λ block stamp x. x)
  run_writes (l ∷ ls) w last r h = λ block stamp x.
      run_writes ls (plays s w l.0 l.1) last (plays_right w r l.0 h.0 l.1 h.1 h.2) h.3 block stamp (plays_writes w r l.0 h.0 l.1 h.1 h.2 block stamp x)
