-- The facts on every run.
use Rattle.std.proofs.Common.{Option, ◌≡◌, ◌⊎◌, ◌↔◌, ℕ, ◌+◌, ◌<◌, length, map, count_by, true, false, List, [], ◌∷◌, ◌++◌, refl, sym, subst, inl, inr, arith}
use Rattle.std.specs.Prelude.{slice_get}
use Rattle.std.specs.declared.option.Option.TheVariants.{None, Some}
use Rattle.std.specs.List.{Contains}
use Rattle.stamp_order.specs.declared.Stamp.{Stamp}
use Rattle.stamp_order.specs.declared.Bound.{Bound}
use Rattle.stamp_order.specs.Stamps.{has, same_stamp, ◌≼◌}
use Rattle.protocol.specs.Messages.{Version, Ask, Request, Reply, Message}
use Rattle.wire_forms.specs.declared.Request.TheVariants.{Write}
use Rattle.wire_forms.specs.declared.Body.TheVariants.{Ask as Asks, Answer as Answers}
use Rattle.protocol.specs.Setting.{Setting, IsValid, IsBlock, first_stamp}
use Rattle.protocol.specs.Operations.{Task, Work, Stage, Outcome}
use Rattle.protocol.specs.Operations.Work.{Reads, Writes}
use Rattle.protocol.specs.Operations.Stage.{Versions}
use Rattle.protocol.specs.World.{World, Record, start_world, only_place, under_way}
use Rattle.protocol.specs.Lines.{Line, Run, plays}
use Rattle.protocol.specs.Facts.{IsTold, IsOutcomeOf, IsHonest, HasAccepted, IsHosted, IsKnown, IsComplete, IsWorking}
use Rattle.protocol.specs.Laws.{ReadsAskUp, WritesDrawAbove, ReadsGiveUp}
use Rattle.protocol.proofs.lemmas.Order.{same_stamp-≡, same_stamp-refl}
use Rattle.protocol.proofs.Invariant.{IsRecord, IsOutcome, Quorum, IsAimed, IsAfter, NoClashFor}
use Rattle.protocol.proofs.lemmas.Strings.{NoClashFor-any}
use Rattle.protocol.proofs.Origins.{IsKnownRequest}
use Rattle.protocol.proofs.Plays.{IsRight, start_right, run_right}
use Rattle.protocol.proofs.Choices.{only_open}
use Rattle.protocol.proofs.Inductions.{run_keeps}
use Rattle.protocol.specs.History.{Entry, IsHistory, IsEntry}
use Rattle.run_words.specs.declared.outcome.Outcome.TheVariants.{Wrote, Spent, Gave, Outvoted}
use Rattle.protocol.proofs.Histories.{entry_stamped}
use Rattle.protocol.specs.Report.{Ascend, counts_of, spent_writes, is_ended}
use Rattle.protocol.proofs.lemmas.Starts.{starts, happens_in_order}
use Rattle.protocol.proofs.lemmas.Counts.{done_count, total_count, spent_count, spent_ascend}
use Rattle.protocol.proofs.Hosts.{AreHosted, happens_hosted, start_hosted, unsaid}
use Rattle.std.proofs.lemmas.Bool.{cases_Bool}

module _ (s : Setting) (w : World) where
  known_request : (block : ℕ) (request : Request) (v : Version) → request ≡ Write v → IsKnownRequest s w block request → IsKnown s w block v.stamp
  known_request block request v e h = let k : IsKnownRequest s w block (Write v) = rw e at h in k

  complete_of : (block end : ℕ) (stamp : Stamp) → Quorum s w block stamp end → (stamp ≡ first_stamp s) ⊎ IsComplete s w block stamp
  complete_of block end stamp q = elim (cases_Bool (same_stamp stamp (first_stamp s))) [
    | inl e ↦ inl (same_stamp-≡ _ _ e)
    | inr e ↦ inr (record {
      nodes = q.members;
      enough = q.enough;
      honest = q.are_honest;
      accepted = λ i l m. elim (q.kept i l m) [ inl f ↦ absurd (not_first stamp f e) | inr h ↦ h ];
    })
  ]
    where
      not_first : (t : Stamp) → t ≡ first_stamp s → same_stamp t (first_stamp s) ≡ false → ⊥
      not_first t f e = let r = same_stamp-refl (first_stamp s) in let g : same_stamp (first_stamp s) (first_stamp s) ≡ false = rw f at e in cc

  aimed_at : (stamp : Stamp) (work : Work) (stage : Stage) (bound : Bound) → stage ≡ Versions bound → IsAimed s stamp work stage → has bound stamp ≡ true
  aimed_at stamp work stage bound e h = let k : IsAimed s stamp work (Versions bound) = rw e at h in k

  write_after : (stamp later : Stamp) (work : Work) (value : List ℕ) → work ≡ Writes value → IsAfter s stamp work later → stamp.time < later.time
  write_after stamp later work value e h = let k : IsAfter s stamp (Writes value) later = rw e at h in k

  read_after : (stamp later : Stamp) (work : Work) → work ≡ Reads → IsAfter s stamp work later → stamp ≼ later
  read_after stamp later work e h = let k : IsAfter s stamp Reads later = rw e at h in k

told_outcome : (s : Setting) (work : Work) (stamp : Option Stamp) (o : Option Outcome) → IsOutcome s work stamp o → IsOutcomeOf work stamp o
told_outcome s Reads stamp None h = h
told_outcome s Reads stamp (Some (Gave given value how rounds)) h = h.0
told_outcome s Reads stamp (Some (Wrote t)) h = absurd h
told_outcome s Reads stamp (Some Spent) h = absurd h
told_outcome s Reads stamp (Some (Outvoted nodes)) h = absurd h
told_outcome s (Writes v) stamp None h = tt
told_outcome s (Writes v) stamp (Some (Gave given value how rounds)) h = absurd h
told_outcome s (Writes v) stamp (Some (Wrote t)) h = h.0
told_outcome s (Writes v) stamp (Some Spent) h = h
told_outcome s (Writes v) stamp (Some (Outvoted nodes)) h = absurd h

told_of : (s : Setting) (w : World) (r : Record) → IsRecord s w r → IsTold w r
told_of s w r k = record {
  start = k.start;
  end = λ end e. (k.in_order end e, k.ended end e);
  ended = (k.open_end, no_outcome r.end refl);
  outcome = told_outcome s r.work r.stamp r.outcome k.outcome;
}
  where
    no_outcome : (z : Option ℕ) → r.end ≡ z → r.outcome ≡ None → r.end ≡ None
    no_outcome None e h = e
    no_outcome (Some end) e h = absurd (let c = k.closed_end end e in let g = c.1 in cc)

module _ (s : Setting) (lines : List (ℕ × Line)) (w : World) (good : IsValid s) (run : Run s (start_world s) lines w) where
  right : IsRight s good w
  right = run_right s good lines (start_world s) w (start_right s good) run

  pub run_hosted : (k : ℕ) (m : Message) (reply : Reply) → slice_get w.pool k ≡ Some m → m.body ≡ Answers reply → IsHonest s m.node → IsHosted s w k m reply
  run_hosted k m reply e body honest =
      let P : ℕ → Ask → Reply → Type 0 = λ i ask told. Unit {0} in
      let made = run_keeps s good (AreHosted s 0 P) (λ v safe h place x a. happens_hosted s 0 P good v safe h (λ i l up ask. tt) place x a) (λ v place h. unsaid s 0 P v h (only_place s v place) refl refl) lines (start_world s) w (start_right s good) run (start_hosted s 0 P) in
      (made k m reply (omega arith) e body honest.1).0

  pub run_kept : (i block : ℕ) (v : Version) → IsHonest s i → Contains (w.versions i block) v → HasAccepted s w i block v.stamp
  run_kept i block v honest h = (right.safe.stored i block honest.0 honest.1).kept v h

  pub run_greatest : (i block : ℕ) (stamp : Stamp) → IsHonest s i → HasAccepted s w i block stamp → (v : Version) × Contains (w.versions i block) v × (stamp ≼ v.stamp)
  run_greatest i block stamp honest a = let c = (right.safe.stored i block honest.0 honest.1).covered stamp a in (c.version, c.there, c.above)

  pub run_accepted : (i block : ℕ) (stamp : Stamp) → IsHonest s i → HasAccepted s w i block stamp → IsKnown s w block stamp
  run_accepted i block stamp honest a = elim a [ inl e ↦ inl e | inr h ↦ right.origins.kept i block stamp h ]

  pub run_asked : (m : Message) (ask : Ask) (v : Version) → Contains w.pool m → m.body ≡ Asks ask → s.lying_client m.client ≡ false → ask.request ≡ Write v → IsKnown s w ask.block v.stamp
  run_asked m ask v h body correct e = known_request s w ask.block ask.request v e (right.origins.asked m ask h body correct)

  pub run_complete : (x : Record) (end : ℕ) (stamp : Stamp) → Contains w.records x → x.end ≡ Some end → x.stamp ≡ Some stamp → (stamp ≡ first_stamp s) ⊎ IsComplete s w x.block stamp
  run_complete x end stamp h e f = complete_of s w x.block end stamp ((right.safe.records x h).completed end stamp e f)

  pub run_aim : ReadsAskUp s w
  run_aim c task bound stamp apart x busy stage =
      aimed_at s w stamp task.work task.stage bound stage (right.safe.aimed c task (NoClashFor-any s w task.work apart) x.past x.end stamp x.there x.ended x.stamped busy (sym x.of_block) x.earlier)

  pub run_above : WritesDrawAbove s w
  run_above y value stamp chosen x there work chose =
      write_after s w stamp chosen y.work value work (right.safe.ordered x.past y (subst (NoClashFor s w) (sym work) tt) x.end stamp chosen x.there there x.ended x.stamped chose (sym x.of_block) x.earlier)

  pub run_up : ReadsGiveUp s w
  run_up y stamp given apart x there work gave =
      read_after s w stamp given y.work work (right.safe.ordered x.past y (NoClashFor-any s w y.work apart) x.end stamp given x.there there x.ended x.stamped gave (sym x.of_block) x.earlier)

module _ (s : Setting) (lines : List (ℕ × Line)) (w : World) (good : IsValid s) (run : Run s (start_world s) lines w) where
  pub run_in_order : Ascend (starts w.records)
  run_in_order = run_keeps s good (λ v. Ascend (starts v.records)) (λ v safe h place x a. happens_in_order s good v safe h place x a) (λ v place h. h) lines (start_world s) w (start_right s good) run tt

  pub run_working : (c : ℕ) (task : Task) → under_way w c ≡ Some task → IsWorking s w c task
  run_working c task busy =
      let k = right s lines w good run in
      let t = k.safe.tasks c task busy in
      record { correct = t.correct; numbered = t.numbered; block = t.block; asked = t.mailed; recorded = (k.origins.tasks c task busy).1; only = only_open s w k.safe c task busy }

  pub run_told : (r : Record) → Contains w.records r → IsTold w r
  run_told r h = told_of s w r ((right s lines w good run).safe.records r h)

  pub run_blocks : (e : Entry) → IsEntry w.records (first_stamp s) e → IsBlock s e.value
  run_blocks e h = (entry_stamped s good w (right s lines w good run).safe e h).size

  pub run_done : (h : List Entry) → IsHistory s w h → (counts_of w.records).done ≡ count_by is_ended h
  run_done h hist = let r = right s lines w good run in done_count s w r.safe r.apart h hist run_in_order

  pub run_total : (counts_of w.records).done + (counts_of w.records).spent + (counts_of w.records).pending ≡ length w.records
  run_total = total_count s w (right s lines w good run).safe

  pub run_spent : (counts_of w.records).spent ≡ length (spent_writes w.records)
  run_spent = spent_count s w (right s lines w good run).safe

  pub run_spent_ascend : Ascend (map (λ x. x.start) (spent_writes w.records))
  run_spent_ascend = spent_ascend w.records run_in_order

module _ (s : Setting) (last : World) (more : List (ℕ × Line)) where
  run_splits : (lines : List (ℕ × Line)) (w : World) → Run s w (lines ++ more) last → (middle : World) × Run s w lines middle × Run s middle more last
  run_splits [] w h = (w, refl, h)
  run_splits (l ∷ ls) w h = let r = run_splits ls (plays s w l.0 l.1) h.3 in (r.0, (h.0, h.1, h.2, r.1), r.2)

  run_joins : (lines : List (ℕ × Line)) (w middle : World) → Run s w lines middle → Run s middle more last → Run s w (lines ++ more) last
  run_joins [] w middle e h = rw e at h
  run_joins (l ∷ ls) w middle h k = (h.0, h.1, h.2, run_joins ls (plays s w l.0 l.1) middle h.3 k)

  pub run_parts : (lines : List (ℕ × Line)) (w : World) → Run s w (lines ++ more) last ↔ ((middle : World) × Run s w lines middle × Run s middle more last)
  run_parts lines w = (run_splits lines w, λ h. run_joins lines w h.0 h.1 h.2)
