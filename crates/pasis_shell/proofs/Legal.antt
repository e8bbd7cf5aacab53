-- What is replayed is judged legal.
use Rattle.std.proofs.Common.{◌≡◌, ℕ, List, refl, sym, subst, ◌∙◌}
use Rattle.std.specs.Prelude.{Option}
use Rattle.std.specs.declared.option.Option.TheVariants.{None, Some}
use Rattle.protocol.specs.History.{NoClash}
use Rattle.history_making.specs.declared.entry.Entry.{Entry}
use Rattle.history_book.specs.declared.judging.Flaw.{Flaw}
use Rattle.history_making.specs.Books.{Book}
use Rattle.history_book.specs.Judging.{IsLegal, IsInTime}
use Rattle.history_book.proofs.lemmas.PrintedReports.{one_report}
use Rattle.command_texts.specs.Replays.{cluster_of, Replays}
use Rattle.command_texts.specs.Verdicts.{IsVerdict, Judges}

no_flaw : (entries : List Entry) (flaw : Option Flaw) → IsLegal entries × IsInTime entries → IsVerdict entries flaw → flaw ≡ None
no_flaw entries None plain verdict = refl
no_flaw entries (Some flaw) plain verdict = absurd (verdict.1 plain)

pub replay_is_legal : (input text verdict : List ℕ) (flaw : Option Flaw) (r : Replays input text) → NoClash (cluster_of r.config r.liars) r.queues.world → Judges text verdict flaw → flaw ≡ None
replay_is_legal input text verdict flaw r apart judged =
    let same : r.book ≡ judged.book = one_report r.book judged.book r.told judged.told (sym r.shown ∙ judged.spelled) in
    no_flaw judged.book.entries flaw (subst (λ (b : Book). IsLegal b.entries × IsInTime b.entries) same (r.plain apart)) judged.verdict
