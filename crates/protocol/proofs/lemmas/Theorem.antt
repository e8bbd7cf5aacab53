-- The safety of every run.
use Rattle.std.proofs.Common.{◌≡◌, ◌≢◌, ◌↔◌, ◌⊎◌, ◌<◌, ℕ, List, inl, inr}
use Rattle.std.specs.declared.option.Option.TheVariants.{None, Some}
use Rattle.std.specs.declared.cmp.Ordering.TheVariants.{Equal}
use Rattle.std.specs.List.{Contains}
use Rattle.protocol.specs.Setting.{Setting, IsValid, Sound, first_stamp}
use Rattle.run_words.specs.declared.outcome.Outcome.TheVariants.{Outvoted}
use Rattle.protocol.specs.World.{World, Record, start_world}
use Rattle.protocol.specs.Lines.{Line, Run, FitsLine, fault, IsPlayable}
use Rattle.protocol.specs.History.{Entry, IsHistory, IsEntry, Legal, InTime, NoClash, HasRead, HasLie, entry_cmp}
use Rattle.protocol.specs.History.Kind.{Read, Write, Foreign}
use Rattle.protocol.specs.Bounds.{IsBounded, IsLow}
use Rattle.protocol.proofs.lemmas.Entries.{kind_made}
use Rattle.protocol.proofs.Histories.{outcome_at, not_outvoted, in_time, entry_stamped, one_value}
use Rattle.protocol.proofs.Registers as registers
use Rattle.protocol.proofs.RunOrigins.{read_known}
use Rattle.protocol.proofs.Origins.{IsKnown}
use Rattle.protocol.proofs.RunRounds.{bounded}
use Rattle.protocol.proofs.Plays.{IsRight, start_right, run_right, run_writes}
use Rattle.protocol.proofs.lemmas.Playing.{no_fault, events_allowed, named_there}
use Rattle.protocol.proofs.Refusing.{playable}
use Rattle.protocol.proofs.Existing.{has_history}
use Rattle.protocol.proofs.lemmas.Keys.{one_key, one_list}

module _ (s : Setting) (lines : List (ℕ × Line)) (w : World) (good : IsValid s) (run : Run s (start_world s) lines w) where
  pub run_is_right : IsRight s good w
  run_is_right = run_right s good lines (start_world s) w (start_right s good) run

  pub run_legal : (h : List Entry) → NoClash s w → IsHistory s w h → Legal s h
  run_legal h apart hist = registers.legal s good w run_is_right.safe h hist apart

  pub run_in_time : (h : List Entry) → NoClash s w → IsHistory s w h → InTime h
  run_in_time h apart hist = in_time s good w run_is_right.safe apart h hist

  pub run_values : (e f : Entry) → NoClash s w → IsEntry w.records (first_stamp s) e → IsEntry w.records (first_stamp s) f → e.stamp ≡ f.stamp → e.value ≡ f.value
  run_values e f apart h k same = one_value s good w run_is_right.safe apart e.stamp e.value f.value (entry_stamped s good w run_is_right.safe e h) (let z = entry_stamped s good w run_is_right.safe f k in rw same z)

  pub run_written : (h : List Entry) (e : Entry) → IsHistory s w h → Contains h e → e.kind ≡ Read → (e.stamp ≡ first_stamp s) ⊎ ((f : Entry) × Contains h f × (f.kind ≢ Read) × (f.block ≡ e.block) × (f.stamp ≡ e.stamp))
  run_written h e hist = registers.of_write s good w run_is_right.safe h hist e

  pub run_sound : (h : List Entry) → IsHistory s w h → (e : Entry) → Contains h e → e.kind ≡ Read → Sound s e.stamp e.value
  run_sound h hist e k kind = (entry_stamped s good w run_is_right.safe e ((hist.1 e).0 k)).sound

  pub run_never_outvoted : (r : Record) (nodes : List ℕ) → Contains w.records r → r.outcome ≢ Some (Outvoted nodes)
  run_never_outvoted r nodes h e = not_outvoted s r.work r.stamp nodes (outcome_at s r (Some (Outvoted nodes)) e (run_is_right.safe.records r h).outcome)

  pub run_keys : (e f : Entry) → IsEntry w.records (first_stamp s) e → IsEntry w.records (first_stamp s) f → entry_cmp e f ≡ Equal → e ≡ f
  run_keys = one_key s w run_is_right.apart

  pub run_one : (h k : List Entry) → IsHistory s w h → IsHistory s w k → h ≡ k
  run_one h k a b = one_list h k a.0 b.0 (λ e x. (b.1 e).1 ((a.1 e).0 x)) (λ e x. (a.1 e).1 ((b.1 e).0 x))

  pub run_bounded : IsBounded w
  run_bounded = bounded w run_is_right.rounds

  pub run_low : IsLow s w
  run_low = run_is_right.low

  -- what a read has given in this world and no write chose later was lied here
  pub run_foreign : (more : List (ℕ × Line)) (last : World) (h : List Entry) → Run s w more last → IsHistory s last h → (e : Entry) → Contains h e → e.kind ≡ Foreign
      → (value : List ℕ) (place : ℕ) → HasRead w.records e.block e.stamp value place → HasLie s w e.block e.stamp
  run_foreign more last h on hist e there kind value place read = at ((hist.1 e).0 there) (read_known s w run_is_right.origins e.block e.stamp value place read)
    where
      at : IsEntry last.records (first_stamp s) e → IsKnown s w e.block e.stamp → HasLie s w e.block e.stamp
      at (inl k) known = absurd (let q : e.kind ≡ Read = kind_made k.made in cc)
      at (inr (inl k)) known = absurd (let q : e.kind ≡ Write = kind_made k.made in cc)
      at (inr (inr k)) (inl f) = absurd (k.0 f)
      at (inr (inr k)) (inr (inl f)) = absurd (k.1.no_write (run_writes s good more w last run_is_right on e.block e.stamp f))
      at (inr (inr k)) (inr (inr f)) = f

  pub run_refusals : (place : ℕ) (line : Line) → w.place < place → FitsLine s line → (fault s w line ≡ None) ↔ IsPlayable s w place line
  run_refusals place line later fits = (
    (λ h. (named_there s good w run_is_right.safe place later line (no_fault s w line h), events_allowed s good w run_is_right.safe place later line fits (no_fault s w line h))),
    playable s w place line fits,
  )

  pub run_has : (h : List Entry) × IsHistory s w h
  run_has = has_history s w run_is_right.safe run_is_right.apart
