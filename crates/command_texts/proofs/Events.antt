-- What a loop over told lines made of the lines so far.
use Rattle.std.proofs.Common.{◌≡◌, ℕ, ◌+◌, List, [], ◌∷◌, ◌++◌, length, map, sym, ◌∙◌, ap, subst, arith, append_assoc, append-nil}
use Rattle.std.specs.List.{AllByRecursion}
use Rattle.quorum_rules.specs.Limits.{Numbers}
use Rattle.run_words.specs.declared.line.Line.{Line}
use Rattle.event_lines.specs.Lines.{IsEventLine}
use Rattle.event_lines.specs.declared.line.ReplayLine.{ReplayLine}
use Rattle.event_lines.specs.declared.line.ReplayLine.TheVariants.{Plain}
use Rattle.journal_records.specs.Told.{IsTold}
use Rattle.lists.proofs.lemmas.Members.{all_push, nil_of_length}

-- the events so far, and the lines that are left, so many
pub record AreMade (c : Numbers) (lines rest : List Line) (left : ℕ) (events : List ReplayLine) : Type 0 where
  pub made : events ++ map Plain rest ≡ map Plain lines
  pub count : left ≡ length rest
  pub fine : AllByRecursion (IsEventLine c) events
  pub told : AllByRecursion (IsTold c) rest

pub begins : (c : Numbers) (lines rest : List Line) (left : ℕ) (events : List ReplayLine) → rest ≡ lines → left ≡ length lines → events ≡ [] → AllByRecursion (IsTold c) lines → AreMade c lines rest left events
begins c lines rest left events e n none told = record {
  made = ap (λ (xs : List ReplayLine). xs ++ map Plain rest) none ∙ ap (map Plain) e;
  count = n ∙ ap length (sym e);
  fine = subst (AllByRecursion (IsEventLine c)) (sym none) tt;
  told = subst (AllByRecursion (IsTold c)) (sym e) told;
}

-- the next line of those that are left is told
pub is_next : (c : Numbers) (lines old new : List Line) (left : ℕ) (line : Line) (events : List ReplayLine) → old ≡ line ∷ new → AreMade c lines old left events → IsTold c line
is_next c lines old new left line events e h = (subst (AllByRecursion (IsTold c)) e h.told).0

pub goes_on : (c : Numbers) (lines old new : List Line) (left fewer : ℕ) (line : Line) (events more : List ReplayLine) → old ≡ line ∷ new → fewer + 1 ≡ left → more ≡ events ++ Plain line ∷ [] → IsEventLine c (Plain line) → AreMade c lines old left events → AreMade c lines new fewer more
goes_on c lines old new left fewer line events more e one f is h =
    let count = ap length e in
    record {
      made = ap (λ (xs : List ReplayLine). xs ++ map Plain new) f ∙ append_assoc events (Plain line ∷ []) (map Plain new) ∙ ap (λ (l : List Line). events ++ map Plain l) (sym e) ∙ h.made;
      count = omega (arith, count, one, h.count);
      fine = subst (AllByRecursion (IsEventLine c)) (sym f) (all_push (IsEventLine c) events (Plain line) h.fine is);
      told = (subst (AllByRecursion (IsTold c)) e h.told).1;
    }

pub ends : (c : Numbers) (lines rest : List Line) (left : ℕ) (events : List ReplayLine) → left ≡ 0 → AreMade c lines rest left events → events ≡ map Plain lines
ends c lines rest left events none h = sym (append-nil events) ∙ ap (λ (l : List Line). events ++ map Plain l) (sym (nil_of_length rest (sym none ∙ h.count))) ∙ h.made
