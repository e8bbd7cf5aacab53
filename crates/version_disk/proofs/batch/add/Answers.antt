use Rattle.std.proofs.Common.{◌≡◌, ◌∷◌, [], ◌++◌, List, sym, ◌∙◌, ap, subst}
use Rattle.node_core.specs.Past.{Addition}
use Rattle.node_core.specs.Seen.{SeenNode}
use Rattle.version_disk.specs.Undone.{undone, LeadTo}
use Rattle.version_disk.proofs.lemmas.Answering.{undone_push, led_push}
use Rattle.version_disk.proofs.batch.add.Goals as goal

pub returns-clause-undone : goal.returns-clause-undone
returns-clause-undone c =
    let added = c.args.batch.now.added.items in
    let one = c.in_ok-undo.undo in
    let noted : c.note.new.list.items ≡ added ++ one ∷ [] = c.note.ensures ∙ ap (λ (l : List Addition). l ++ one ∷ []) c.in_ok-reserve.ensures.items in
    ap (undone c.add_version.new.self) noted ∙ undone_push c.add_version.new.self added one ∙ ap (λ (n : SeenNode). undone n added) c.in_ok-undo.ensures.before

pub returns-clause-led : goal.returns-clause-led
returns-clause-led c =
    let added = c.args.batch.now.added.items in
    let one = c.in_ok-undo.undo in
    let noted : c.note.new.list.items ≡ added ++ one ∷ [] = c.note.ensures ∙ ap (λ (l : List Addition). l ++ one ∷ []) c.in_ok-reserve.ensures.items in
    subst (LeadTo c.add_version.new.self) (sym noted)
    (led_push c.add_version.new.self added one (subst (λ (n : SeenNode). LeadTo n added) (sym c.in_ok-undo.ensures.before) c.requires.led) c.in_ok-undo.ensures.after)
