-- What a picture shows of a script.
use Rattle.std.specs.Prelude.{◌≡◌, ℕ, ◌<◌, ◌≤◌, List, length, map}
use Rattle.quorum_rules.specs.Limits.{Numbers}
use Rattle.wire_forms.specs.Liars.{Liars}
use Rattle.event_lines.specs.Lines.{event_text}
use Rattle.event_lines.specs.declared.line.ReplayLine.{ReplayLine}
use Rattle.command_texts.specs.Replays.{Replays}
use Rattle.picture_svg.specs.declared.picture.Picture.{Picture}
use Rattle.picture_svg.specs.declared.picture.Row.{Row}
use Rattle.run_teller.specs.Captions.{caption_of}
use Rattle.run_teller.specs.Columns.{columns_of, named_in}
use Rattle.run_teller.specs.Short.{short_line, AreLinesOf}

-- the line's text as a picture shows it
abbrev pub shown_line : ReplayLine → List ℕ
shown_line line = short_line (event_text line)

abbrev pub line_of : Row → List ℕ
line_of row = row.line

-- the picture has a row for each line, in order, with that line's text; a lifeline for each client that a line names or that is
-- declared lying, by number, and then one for each node; what the cluster's numbers mean; and the report's lines
pub record Shows (c : Numbers) (liars : Liars) (lines : List ReplayLine) (report : List ℕ) (p : Picture) : Type 0 where
  pub rows : map line_of p.rows.items ≡ map shown_line lines
  pub columns : p.lifelines.items ≡ columns_of c liars (named_in lines)
  pub caption : p.caption.items ≡ caption_of c
  pub below : AreLinesOf report p.report.items

-- the picture is that of the lines of a script that `replay` takes, at most 400, and of the report that it writes
pub record Depicts (input : List ℕ) (p : Picture) : Type 0 where
  pub report : List ℕ
  pub replays : Replays input report
  pub few : length replays.lines ≤ 400
  pub shows : Shows replays.config replays.liars replays.lines report p

-- `replay` takes the script, which has so many event lines, more than are drawn
pub record HasTooMany (input : List ℕ) (count : ℕ) : Type 0 where
  pub report : List ℕ
  pub replays : Replays input report
  pub counted : length replays.lines ≡ count
  pub many : 400 < count
