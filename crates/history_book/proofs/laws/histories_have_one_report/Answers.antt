use Rattle.history_book.proofs.lemmas.PrintedReports.{report_accepted, one_report}
use Rattle.history_book.proofs.laws.histories_have_one_report.Goals as goal

pub returns-clause-accepted : goal.returns-clause-accepted
returns-clause-accepted c = report_accepted

pub returns-clause-one : goal.returns-clause-one
returns-clause-one c = one_report
