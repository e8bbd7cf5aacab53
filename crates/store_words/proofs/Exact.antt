-- The words of a command have no cause.
use Rattle.std.proofs.Common.{◌≡◌, ◌==◌, ℕ, ◌^◌, ◌<◌, ◌≤◌, Bool, true, false, List, [], ◌∷◌, ◌++◌, length, refl, sym, ap, ◌∙◌, arith, lit≤}
use Rattle.std.specs.Prelude.{codes, decimal, slice_index_or, Some, None}
use Rattle.std.specs.Str.{bytes_eq}
use Rattle.std.proofs.lemmas.Slice.Eq.{bytes_eq-Decides}
use Rattle.std.proofs.lemmas.Bool.{eq-eqb, lt-ltb}
use Rattle.quorum_rules.specs.Limits.{Numbers}
use Rattle.quorum_rules.specs.declared.Edition.TheVariants.{Four}
use Rattle.quorum_rules.specs.Faults.{fault, numbers}
use Rattle.quorum_rules.proofs.lemmas.FaultLaws.{none_of_valid, size_at_most, blocks_at_most}
use Rattle.text_lines.specs.Fields.{number_of}
use Rattle.text_lines.proofs.lemmas.Numbers.{number_of-decimal}
use Rattle.store_words.specs.Words.{Asks, IsOf, IsCreated, IsRenewed, number_words, words_of}
use Rattle.store_words.specs.Causes.{cause, counted, cluster_cause, create_cause, renew_cause}
use Rattle.store_words.specs.declared.words.Command.{Command}
use Rattle.store_words.specs.declared.words.Command.TheVariants.{Help, Version, Create, Serve, Status, Scrub, Renew}

reads : (n : ℕ) → n < 2 ^ 32 → number_of (2 ^ 32) (decimal n) ≡ Some n
reads n lt = number_of-decimal (2 ^ 32) n (lit≤ tt) lt

create_none : (c : Numbers) (folders : List (List ℕ)) → IsCreated c (length folders) → create_cause (number_words c ++ folders) ≡ None
create_none c folders is =
    let v = is.valid in
    let size = size_at_most c v in
    let blocks = blocks_at_most c v in
    let each : (length folders == c.n) ≡ true = eq-eqb (length folders) c.n is.each in
    let fourth : numbers Four c.n c.t c.b c.qc c.m c.size c.blocks ≡ c = ap (λ e. numbers e c.n c.t c.b c.qc c.m c.size c.blocks) (sym is.edition) in
    let none : fault (numbers Four c.n c.t c.b c.qc c.m c.size c.blocks) ≡ None = ap fault fourth ∙ none_of_valid c v in
    rw (reads c.n (omega arith), reads c.t (omega arith), reads c.b (omega arith), reads c.qc (omega arith), reads c.m (omega arith), reads c.size (omega arith), reads c.blocks (omega arith))
    (ap (λ f. cluster_cause f (length folders == c.n)) none ∙ ap counted each)

false_unless : (b : Bool) → (b ≡ true → ⊥) → b ≡ false
false_unless true never = absurd (never refl)
false_unless false never = refl

renew_none : (node : ℕ) (folders : List (List ℕ)) → IsRenewed node folders → renew_cause (decimal node ∷ folders) ≡ None
renew_none node folders is =
    let place : bytes_eq (slice_index_or folders node []) (codes "-") ≡ false = false_unless _ (λ e. is.named ((bytes_eq-Decides (slice_index_or folders node []) (codes "-")).0 e)) in
    rw (reads node is.fits, lt-ltb node (length folders) is.there, place) refl

none_of : (command : Command) (folders : List (List ℕ)) → IsOf command folders → cause (words_of command ++ folders) ≡ None
none_of Help folders is = rw is refl
none_of Version folders is = rw is refl
none_of (Create c) folders is = create_none c folders is
none_of Serve folders is = rw (lt-ltb 0 (length folders) is) refl
none_of Status folders is = rw (lt-ltb 0 (length folders) is) refl
none_of Scrub folders is = rw (lt-ltb 0 (length folders) is) refl
none_of (Renew node) folders is = renew_none node folders is

pub no_cause : (words : List (List ℕ)) (command : Command) (folders : List (List ℕ)) → Asks words command folders → cause words ≡ None
no_cause words command folders asks = ap cause asks.spelled ∙ none_of command folders asks.fits
