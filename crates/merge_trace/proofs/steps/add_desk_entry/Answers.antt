use Rattle.std.proofs.Common.{List, sym, subst}
use Rattle.std.specs.Prelude.{IsTrue, IfOk, ◌↔◌}
use Rattle.journals.specs.Journals.{setting_for}
use Rattle.journals.specs.Steps.Step.{AtDesk}
use Rattle.merge_trace.specs.Numbered.{AreNew, AreAdded}
use Rattle.merge_trace.proofs.Adding.{Numbered, refused, told_one, added_one}
use Rattle.merge_trace.proofs.Fitting.{own_is, own_fits}
use Rattle.merge_trace.proofs.steps.add_desk_entry.Goals as goal

pub returns-then-not-fits_desk : goal.returns-then-not-fits_desk
returns-then-not-fits_desk c =
    let own = own_is c.args.client c.args.entry.now.number c.args.entry.now.act c.in_default.not-Call in
    record {
      fine = refused _ (λ new. let k = c.fits_desk.ensures.1 (own_fits (setting_for c.args.journals.now) c.args.numbers.now c.args.client c.args.entry.now.number c.args.entry.now.act own new) in cc);
      numbers = λ h. absurd (cc);
    }

pub returns : goal.returns
returns c =
    let e = AtDesk c.args.client c.args.entry.now.act in
    let own = own_is c.args.client c.args.entry.now.number c.args.entry.now.act c.in_default.not-Call in
    record {
      fine = subst (λ (steps : List Numbered). IfOk c.is_new.result (λ fine. IsTrue fine ↔ AreNew (setting_for c.args.journals.now) c.args.numbers.now steps)) (sym own)
          (told_one (setting_for c.args.journals.now) c.args.numbers.now c.args.entry.now.number e c.is_new.result (c.fits_desk.ensures.0 c.if-not-fits_desk.false) c.is_new.ensures.new);
      numbers = subst (λ (steps : List Numbered). IfOk c.is_new.result (λ fine. IsTrue fine → AreAdded c.args.numbers.now c.is_new.new.numbers steps)) (sym own)
          (added_one c.args.numbers.now c.is_new.new.numbers c.args.entry.now.number e c.is_new.result c.is_new.ensures.numbers);
    }
