use Rattle.line_forms.proofs.lemmas.Texts.{one_fault, no_fault}
use Rattle.line_forms.proofs.laws.a_text_has_one_fault.Goals as goal

pub returns-clause-one : goal.returns-clause-one
returns-clause-one c = one_fault

pub returns-clause-none : goal.returns-clause-none
returns-clause-none c = no_fault
