use Rattle.std.proofs.Common.{◌≡◌, ℕ, List, [], ◌∷◌, ◌++◌, length, ◌∙◌, ap, subst, arith}
use Rattle.std.proofs.lemmas.List.{append-nil}
use Rattle.quorum_rules.specs.Limits.{Numbers}
use Rattle.node_core.specs.Lent.{lent}
use Rattle.slot_disk.specs.Slots.{version_slot, body_of, Fits}
use Rattle.version_disk.proofs.Journals.{one_behind, length-one_behind}
use Rattle.version_disk.proofs.compact.write_slot.Goals as goal

pub flush-requires : goal.flush-requires
flush-requires g c =
    let E = g.E.Disk in
    let node = c.args.node.now in
    let seen = E.seen c.args.disk.now in
    let ahead = c.args.ahead.now.items in
    let s = version_slot c.args.block (lent c.args.version) in
    let fits : Fits node.config s = subst (λ (k : Numbers). Fits k (version_slot c.args.block (lent c.args.version))) c.config.ensures c.in_ok-write_body.ensures.fits in
    let items : c.write_body.new.piece.items ≡ (ahead ++ 1 ∷ []) ++ body_of s = c.in_ok-write_body.ensures.body ∙ ap (λ (l : List ℕ). l ++ body_of s) c.in_ok-push.ensures.items in
    record { fits = omega (arith, ap (λ (l : List ℕ). length (seen ++ l)) items, length-one_behind node.config s seen ahead fits, c.requires.fits) }

pub returns-then-len-lt-CHUNK-clause-journal : goal.returns-then-len-lt-CHUNK-clause-journal
returns-then-len-lt-CHUNK-clause-journal g c =
    let E = g.E.Disk in
    let seen = E.seen c.args.disk.now in
    let ahead = c.args.ahead.now.items in
    let s = version_slot c.args.block (lent c.args.version) in
    let items : c.write_body.new.piece.items ≡ (ahead ++ 1 ∷ []) ++ body_of s = c.in_ok-write_body.ensures.body ∙ ap (λ (l : List ℕ). l ++ body_of s) c.in_ok-push.ensures.items in
    ap (λ (l : List ℕ). seen ++ l) items ∙ one_behind seen ahead (body_of s)

pub returns-clause-journal : goal.returns-clause-journal
returns-clause-journal g c =
    let E = g.E.Disk in
    let seen = E.seen c.args.disk.now in
    let ahead = c.args.ahead.now.items in
    let s = version_slot c.args.block (lent c.args.version) in
    let items : c.write_body.new.piece.items ≡ (ahead ++ 1 ∷ []) ++ body_of s = c.in_ok-write_body.ensures.body ∙ ap (λ (l : List ℕ). l ++ body_of s) c.in_ok-push.ensures.items in
    ap (λ (l : List ℕ). E.seen c.flush.new.disk ++ l) c.in_ok-flush.ensures.none ∙ append-nil (E.seen c.flush.new.disk) ∙ c.in_ok-flush.ensures.journal
    ∙ ap (λ (l : List ℕ). seen ++ l) items ∙ one_behind seen ahead (body_of s)
