-- What follows from an answer by a table of causes.
use Rattle.std.proofs.Common.{◌≡◌, ℕ, List, Option, Some, None, Result, Ok, Err, ◌∙◌}
use Rattle.std.specs.Prelude.{IsErrAnd, IfErr}
use Rattle.line_forms.specs.Tables.{Gives, or_then, refused_at}
use Rattle.line_forms.specs.Texts.{Grammar, IsFault, IsRefusal}
use Rattle.line_forms.specs.declared.cause.Cause.{Cause}
use Rattle.line_forms.specs.declared.refusal.LineRefusal.{LineRefusal}
use Rattle.line_forms.specs.declared.refusal.LineRefusal.TheVariants as line_refusals

-- the same answer for the same cause
pub gives_same : {X : Type 0} (P Q : X → Type 0) (a b : Option Cause) (r : Result X LineRefusal) → ((x : X) → P x → Q x) → b ≡ a → Gives P a r → Gives Q b r
gives_same P Q a b (Ok x) f e h = (e ∙ h.0, f x h.1)
gives_same P Q a b (Err line_refusals.NoMemory) f e h = tt
gives_same P Q a b (Err (line_refusals.Cause c)) f e h = e ∙ h

-- where there is no first cause the second one counts
pub or_none : (first later x : Option Cause) → first ≡ None → later ≡ x → or_then first later ≡ x
or_none None later x e h = h
or_none (Some d) later x e h = absurd cc

-- a line's refusal is the text's
pub refusal_here : {X : Type 0} (Is : X → Type 0) (g : Grammar) (text : List ℕ) (n : ℕ) (cause : Option Cause) (r : LineRefusal) → Gives Is cause (Err r) → ((c : Cause) → cause ≡ Some c → IsFault g text n c) → IsRefusal g text (refused_at n r)
refusal_here Is g text n cause line_refusals.NoMemory h f = tt
refusal_here Is g text n cause (line_refusals.Cause c) h f = f c h

-- a cause that `?` gives on
pub gives_cause : {X : Type 0} (Is : X → Type 0) (cause : Option Cause) (c : Cause) (r : Result X LineRefusal) → cause ≡ Some c → IsErrAnd r (λ e. e ≡ line_refusals.Cause c) → Gives Is cause r
gives_cause Is cause c (Ok x) h k = absurd k
gives_cause Is cause c (Err e) h k = rw k h

-- a refusal that `?` gives on
pub err_is : {T E : Type 0} (P : E → Type 0) (r : Result T E) (e : E) → IsErrAnd r (λ d. d ≡ e) → P e → IfErr r P
err_is P (Ok x) e h p = absurd h
err_is P (Err d) e h p = rw h p
