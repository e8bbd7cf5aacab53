use Rattle.std.proofs.Common.{refl, sym, ap, subst}
use Rattle.version_disk.specs.Undone.{undone, LeadTo}
use Rattle.version_disk.proofs.batch.answer_each.Goals as goal

pub loop-ask-init : goal.loop-ask-init
loop-ask-init c = record {
  batch = c.requires.batch;
  undone = ap (undone c.args.node.now) c.requires.none;
  led = subst (LeadTo c.args.node.now) (sym c.requires.none) tt;
  config = refl;
  number = refl;
}
