-- Lines that lead on from where lines lead to.
use Rattle.std.proofs.Common.{◌≡◌, ℕ, ◌+◌, ◌<◌, List, [], ◌∷◌, ◌++◌, refl, sym, ap, subst, ◌∙◌, length, get_or, take, drop, arith}
use Rattle.std.proofs.lemmas.List.{drop_more, take_more, take-append-drop, length-take-le}
use Rattle.std.specs.declared.option.Option.TheVariants.{None, Some}
use Rattle.quorum_rules.specs.Limits.{Numbers}
use Rattle.protocol.specs.Setting.{Setting}
use Rattle.block_device.specs.declared.steps.BlockStep.{BlockStep}
use Rattle.line_forms.specs.Tables.{refused_at}
use Rattle.line_forms.specs.declared.cause.Cause.{Cause}
use Rattle.line_forms.specs.declared.refusal.LineRefusal.{LineRefusal}
use Rattle.line_forms.specs.declared.refusal.LineRefusal.TheVariants as lines
use Rattle.line_forms.specs.declared.refusal.ScriptFault.{ScriptFault}
use Rattle.line_forms.specs.declared.refusal.ScriptRefusal.TheVariants as scripts
use Rattle.event_lines.specs.declared.line.ReplayLine.{ReplayLine}
use Rattle.event_lines.specs.declared.line.ReplayLine.TheVariants.{Plain, Put, Get, Next}
use Rattle.std.specs.Prelude.{option_map, Option}
use Rattle.line_forms.specs.declared.cause.Cause.TheVariants.{Step}
use Rattle.protocol.specs.World.{start_world}
use Rattle.protocol.specs.Lines.{Line, StepFault, IsRun, FitsLine, fault, plays}
use Rattle.protocol.proofs.lemmas.Kept.{run_parts}
use Rattle.script_run.specs.Performing.{CommandQueues, started_by, next_line, run_line, run_lines_from, run_lines, cause_of, next_cause, after_line, stepped, start_queues, LeadsTo, StopsAt}

module _ (s : Setting) (c : Numbers) where
  -- one line more
  pub leads_more : (d e last : CommandQueues) (place at : ℕ) (xs : List ReplayLine) (line : ReplayLine) → LeadsTo s c d place xs e → at ≡ place + length xs
      → cause_of s c e line ≡ None → last ≡ after_line s c e at line → LeadsTo s c d place (xs ++ line ∷ []) last
  leads_more d e last place at [] line h p none f =
      let same : at ≡ place = omega arith in
      (subst (λ (z : CommandQueues). cause_of s c z line ≡ None) h none, f ∙ ap (λ (z : CommandQueues). after_line s c z at line) h ∙ ap (λ (p : ℕ). after_line s c d p line) same)
  leads_more d e last place at (x ∷ xs) line h p none f = (h.0, leads_more (after_line s c d place x) e last (place + 1) at xs line h.1 (omega arith) none f)

  -- the next line of these
  pub leads_next : (d e last : CommandQueues) (at : ℕ) (xs : List ReplayLine) (i : ℕ) (line : ReplayLine) → i < length xs → line ≡ get_or xs i line → LeadsTo s c d 1 (take i xs) e → at ≡ i + 1
      → cause_of s c e line ≡ None → last ≡ after_line s c e at line → LeadsTo s c d 1 (take (i + 1) xs) last
  leads_next d e last at xs i line l is h p none f =
      let long : length (take i xs) ≡ i = length-take-le i xs (omega arith) in
      subst (λ (zs : List ReplayLine). LeadsTo s c d 1 zs last) (sym (take_more xs i line l ∙ ap (λ (z : ReplayLine). take i xs ++ z ∷ []) (sym is)))
      (leads_more d e last 1 at (take i xs) line h (omega (arith, long)) none f)

  -- the next line of these can't take place
  pub stops_here : (e : CommandQueues) (xs : List ReplayLine) (i : ℕ) (line : ReplayLine) (cause : Cause) → i < length xs → line ≡ get_or xs i line → LeadsTo s c (start_queues s) 1 (take i xs) e
      → cause_of s c e line ≡ Some cause → StopsAt s c xs i cause
  stops_here e xs i line cause l is h f = record {
    front = take i xs;
    line = line;
    rest = drop (i + 1) xs;
    parts = sym (take-append-drop i xs) ∙ ap (λ (zs : List ReplayLine). take i xs ++ zs) (drop_more xs i line l ∙ ap (λ (z : ReplayLine). z ∷ drop (i + 1) xs) (sym is));
    counted = length-take-le i xs (omega arith);
    queues = e;
    performed = h;
    stopped = f;
  }

  stepped-place : (d : CommandQueues) (place client : ℕ) (left : List BlockStep) → next_cause s d.world client left ≡ None → (stepped s d place client left).world.place ≡ place
  stepped-place d place client [] e = absurd cc
  stepped-place d place client (step ∷ more) e = refl

  -- a line that takes place leaves the world at its place
  pub after-place : (d : CommandQueues) (place : ℕ) (line : ReplayLine) → cause_of s c d line ≡ None → (after_line s c d place line).world.place ≡ place
  after-place d place (Plain line) e = refl
  after-place d place (Put client offset bytes) e = refl
  after-place d place (Get client offset len) e = refl
  after-place d place (Next client) e = stepped-place d place client (d.left client) e

  -- ---- the run of the lines

  unmapped : (o : Option StepFault) → option_map Step o ≡ None → o ≡ None
  unmapped None e = refl
  unmapped (Some f) e = absurd (cc)

  -- what a line that takes place is in the run
  record IsTaken (d : CommandQueues) (place : ℕ) (line : ReplayLine) : Type 0 where
    fine : fault s d.world (run_line s d line) ≡ None
    next : (after_line s c d place line).world ≡ plays s d.world place (run_line s d line)

  next_taken : (d : CommandQueues) (place client : ℕ) (left : List BlockStep) → next_cause s d.world client left ≡ None
      → (fault s d.world (next_line s d.world client left) ≡ None) × ((stepped s d place client left).world ≡ plays s d.world place (next_line s d.world client left))
  next_taken d place client [] e = absurd (cc)
  next_taken d place client (step ∷ more) e = (unmapped (fault s d.world (started_by s d.world client step)) e, refl)

  taken : (d : CommandQueues) (place : ℕ) (line : ReplayLine) → cause_of s c d line ≡ None → IsTaken d place line
  taken d place (Plain line) e = record { fine = unmapped (fault s d.world line) e; next = refl }
  taken d place (Put client offset bytes) e = record { fine = refl; next = refl }
  taken d place (Get client offset len) e = record { fine = refl; next = refl }
  taken d place (Next client) e = let k = next_taken d place client (d.left client) e in record { fine = k.0; next = k.1 }

  lines_more : (d e : CommandQueues) (place at : ℕ) (xs : List ReplayLine) (line : ReplayLine) → LeadsTo s c d place xs e → at ≡ place + length xs
      → run_lines_from s c d place (xs ++ line ∷ []) ≡ run_lines_from s c d place xs ++ (at, run_line s e line) ∷ []
  lines_more d e place at [] line h p =
      let same : place ≡ at = omega arith in
      (λ i. (same i, run_line s (sym h i) line) ∷ [])
  lines_more d e place at (x ∷ xs) line h p = ap (λ (ls : List (ℕ × Line)). (place, run_line s d x) ∷ ls) (lines_more (after_line s c d place x) e (place + 1) at xs line h.1 (omega arith))

  -- the run goes on by the next of these lines
  pub run_next : (e last : CommandQueues) (at : ℕ) (xs : List ReplayLine) (i : ℕ) (line : ReplayLine) → i < length xs → line ≡ get_or xs i line → LeadsTo s c (start_queues s) 1 (take i xs) e → at ≡ i + 1 → e.world.place ≡ i
      → cause_of s c e line ≡ None → last ≡ after_line s c e at line → FitsLine s (run_line s e line)
      → IsRun s (run_lines s c (take i xs)) e.world → IsRun s (run_lines s c (take (i + 1) xs)) last.world
  run_next e last at xs i line l is h p placed none f fits run =
      let long : length (take i xs) ≡ i = length-take-le i xs (omega arith) in
      let k = taken e at line none in
      let more = lines_more (start_queues s) e 1 at (take i xs) line h (omega (arith, long)) in
      let on : IsRun s (run_lines s c (take i xs) ++ (at, run_line s e line) ∷ []) last.world =
      (run_parts s last.world ((at, run_line s e line) ∷ []) (run_lines s c (take i xs)) (start_world s)).1 (e.world, run, (omega arith, fits, k.fine, ap (λ (z : CommandQueues). z.world) f ∙ k.next)) in
      subst (λ (zs : List ReplayLine). IsRun s (run_lines s c zs) last.world) (sym (take_more xs i line l ∙ ap (λ (z : ReplayLine). take i xs ++ z ∷ []) (sym is)))
      (subst (λ (ls : List (ℕ × Line)). IsRun s ls last.world) (sym more) on)

-- a script's refusal tells the line's number and cause
pub told_at : (n line : ℕ) (refusal : LineRefusal) (cause : Cause) → refused_at n refusal ≡ scripts.Fault (record { line = line; cause = cause }) → (refusal ≡ lines.Cause cause) × (line ≡ n)
told_at n line lines.NoMemory cause e = absurd cc
told_at n line (lines.Cause c) cause e =
    let same : ◌≡◌ {A = ScriptFault} (record { line = n; cause = c }) (record { line = line; cause = cause }) = cc in
    (ap lines.Cause (ap (λ (f : ScriptFault). f.cause) same), sym (ap (λ (f : ScriptFault). f.line) same))
