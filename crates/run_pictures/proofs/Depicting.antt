-- A script that is read once more has the lines that `replay` takes: a text spells one replay.
use Rattle.std.proofs.Common.{◌≡◌, ℕ, zero, suc, ◌≤◌, ◌<◌, List, [], ◌∷◌, length, get_or, subst, sym, ap, arith}
use Rattle.std.specs.List.{AllByRecursion}
use Rattle.quorum_rules.specs.Limits.{Numbers}
use Rattle.wire_forms.specs.Liars.{Liars}
use Rattle.event_lines.specs.declared.line.ReplayLine.{ReplayLine}
use Rattle.event_lines.specs.Lines.{IsEventLine}
use Rattle.script_text.specs.Replays.{IsReplay, Spells}
use Rattle.command_texts.specs.Replays.{IsScript, Replays}
use Rattle.picture_svg.specs.declared.picture.Picture.{Picture}
use Rattle.run_pictures.specs.Shown.{HasTooMany, Shows, Depicts}

module _ (one : (text : List ℕ) (c d : Numbers) (l m : Liars) (es fs : List ReplayLine) → IsReplay c l es → IsReplay d m fs → Spells text c l es → Spells text d m fs → (c ≡ d) × (l ≡ m) × (es ≡ fs))
    (input report : List ℕ) (r : Replays input report) (d : Numbers) (m : Liars) (fs : List ReplayLine) (script : IsScript input d m fs) where
  same : (d ≡ r.config) × (m ≡ r.liars) × (fs ≡ r.lines)
  same = one input d r.config m r.liars fs r.lines script.replay r.script.replay script.spelled r.script.spelled

  pub depicts : length fs ≤ 400 → (p : Picture) → Shows d m fs report p → Depicts input p
  depicts few p shows = record {
    report = report;
    replays = r;
    few = subst (λ (z : List ReplayLine). length z ≤ 400) same.2 few;
    shows =
        subst (λ (z : List ReplayLine). Shows r.config r.liars z report p) same.2
        (subst (λ (z : Liars). Shows r.config z fs report p) same.1
        (subst (λ (z : Numbers). Shows z m fs report p) same.0 shows));
  }

  pub too_many : 400 < length fs → HasTooMany input (length fs)
  too_many many = record {
    report = report;
    replays = r;
    counted = sym (ap (λ (z : List ReplayLine). length z) same.2);
    many = many;
  }

-- each of the lines is one
pub line_at : (c : Numbers) (lines : List ReplayLine) (i : ℕ) (d : ReplayLine) → AllByRecursion (IsEventLine c) lines → i < length lines → IsEventLine c (get_or lines i d)
line_at c [] i d all l = absurd (omega arith)
line_at c (line ∷ lines) zero d all l = all.0
line_at c (line ∷ lines) (suc i) d all l = line_at c lines i d all.1 (omega arith)
