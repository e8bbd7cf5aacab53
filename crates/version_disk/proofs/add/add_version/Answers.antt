use Rattle.std.proofs.Common.{◌≡◌, ℕ, ◌+◌, List, length, get_or, sym, ◌∙◌, ap, subst}
use Rattle.quorum_rules.specs.Limits.{Numbers}
use Rattle.node_core.specs.Seen.{SeenNode}
use Rattle.slot_disk.specs.Slots.{version_slot, body_len, Fits, IsPieceOf}
use Rattle.version_disk.specs.Kept.{IsKept}
use Rattle.version_disk.specs.Deeds.{after_deed, Answers}
use Rattle.version_disk.proofs.Keeping.{unmoved, piece_long, piece_zero}
use Rattle.version_disk.proofs.Accepting.{version_good, version_after, version_slots}
use Rattle.version_disk.proofs.Deeds.{deed_any_moment, deed_kept, deed_done}
use Rattle.version_disk.proofs.add.add_version.Goals as goal

pub returns-in_err-piece-clause-any_moment : goal.returns-in_err-piece-clause-any_moment
returns-in_err-piece-clause-any_moment g c =
    let D = g.D.Disk in
    let node = c.args.node.now in
    unmoved D.moment D.left_since D.pending D.seen c.args.disk.now (g.met.D.Disk.only_now c.args.disk.now) node.config node.number c.args.count node (after_deed node (Answers c.args.ask.now)) c.requires.kept

pub returns-in_err-commit-clause-any_moment : goal.returns-in_err-commit-clause-any_moment
returns-in_err-commit-clause-any_moment g c =
    let D = g.D.Disk in
    let node = c.args.node.now in
    unmoved D.moment D.left_since D.pending D.seen c.args.disk.now (g.met.D.Disk.only_now c.args.disk.now) node.config node.number c.args.count node (after_deed node (Answers c.args.ask.now)) c.requires.kept

pub keep_slot-requires-clause-whole : goal.keep_slot-requires-clause-whole
keep_slot-requires-clause-whole g c =
    ap length c.deref_mut.ensures.value ∙ piece_long c.config.result.now (version_slot c.args.ask.now.block c.args.version) c.in_ok-piece.piece.items c.in_ok-piece.ensures.fits c.in_ok-piece.ensures.piece

pub keep_slot-requires-clause-zero : goal.keep_slot-requires-clause-zero
keep_slot-requires-clause-zero g c =
    ap (λ (l : List ℕ). get_or l (body_len c.config.result.now) 0) c.deref_mut.ensures.value ∙ piece_zero c.config.result.now (version_slot c.args.ask.now.block c.args.version) c.in_ok-piece.piece.items c.in_ok-piece.ensures.fits c.in_ok-piece.ensures.piece

pub returns-in_err-keep_slot-clause-any_moment : goal.returns-in_err-keep_slot-clause-any_moment
returns-in_err-keep_slot-clause-any_moment g c =
    let D = g.D.Disk in
    let node = c.args.node.now in
    let slot = version_slot c.args.ask.now.block c.args.version in
    let same : c.config.result.now ≡ node.config = c.config.ensures in
    let same_number : c.number.result ≡ node.number = c.number.ensures ∙ ap (λ (n : SeenNode). n.number) c.in_ok-commit.ensures.ok in
    let fits : Fits node.config slot = subst (λ (k : Numbers). Fits k (version_slot c.args.ask.now.block c.args.version)) same c.in_ok-piece.ensures.fits in
    let piece : IsPieceOf slot c.deref_mut.result.now = c.deref_mut.ensures.value ∙ c.in_ok-piece.ensures.piece in
    let good = version_good node c.args.ask.now c.args.version c.requires.added fits in
    deed_any_moment D.moment D.left_since D.pending D.seen node (Answers c.args.ask.now) slot (version_after node c.args.ask.now c.args.version c.requires.added) (version_slots node c.args.ask.now c.args.version c.requires.added) c.args.disk.now c.keep_slot.new.disk c.requires.kept.state c.config.result.now c.number.result same same_number good (λ here. c.keep_slot.ensures.any_moment slot here piece)

pub returns-clause-any_moment : goal.returns-clause-any_moment
returns-clause-any_moment g c =
    let D = g.D.Disk in
    let node = c.args.node.now in
    let slot = version_slot c.args.ask.now.block c.args.version in
    let same : c.config.result.now ≡ node.config = c.config.ensures in
    let same_number : c.number.result ≡ node.number = c.number.ensures ∙ ap (λ (n : SeenNode). n.number) c.in_ok-commit.ensures.ok in
    let fits : Fits node.config slot = subst (λ (k : Numbers). Fits k (version_slot c.args.ask.now.block c.args.version)) same c.in_ok-piece.ensures.fits in
    let piece : IsPieceOf slot c.deref_mut.result.now = c.deref_mut.ensures.value ∙ c.in_ok-piece.ensures.piece in
    let good = version_good node c.args.ask.now c.args.version c.requires.added fits in
    deed_any_moment D.moment D.left_since D.pending D.seen node (Answers c.args.ask.now) slot (version_after node c.args.ask.now c.args.version c.requires.added) (version_slots node c.args.ask.now c.args.version c.requires.added) c.args.disk.now c.keep_slot.new.disk c.requires.kept.state c.config.result.now c.number.result same same_number good (λ here. c.keep_slot.ensures.any_moment slot here piece)

pub returns-clause-kept : goal.returns-clause-kept
returns-clause-kept g c =
    let D = g.D.Disk in
    let node = c.args.node.now in
    let slot = version_slot c.args.ask.now.block c.args.version in
    let same : c.config.result.now ≡ node.config = c.config.ensures in
    let same_number : c.number.result ≡ node.number = c.number.ensures ∙ ap (λ (n : SeenNode). n.number) c.in_ok-commit.ensures.ok in
    let fits : Fits node.config slot = subst (λ (k : Numbers). Fits k (version_slot c.args.ask.now.block c.args.version)) same c.in_ok-piece.ensures.fits in
    let piece : IsPieceOf slot c.deref_mut.result.now = c.deref_mut.ensures.value ∙ c.in_ok-piece.ensures.piece in
    let good = version_good node c.args.ask.now c.args.version c.requires.added fits in
    subst (λ (n : SeenNode). IsKept D.pending D.seen node.config node.number n (c.args.count + 1) c.keep_slot.new.disk) (sym c.in_ok-commit.ensures.ok)
    (deed_kept D.moment D.left_since D.pending D.seen node (Answers c.args.ask.now) slot (version_after node c.args.ask.now c.args.version c.requires.added) (version_slots node c.args.ask.now c.args.version c.requires.added) c.args.disk.now c.keep_slot.new.disk c.requires.kept.state c.config.result.now c.number.result same same_number (c.args.count + 1) good (λ here. c.in_ok-keep_slot.ensures.kept slot here piece))

pub returns-clause-done : goal.returns-clause-done
returns-clause-done g c =
    let D = g.D.Disk in
    let node = c.args.node.now in
    let slot = version_slot c.args.ask.now.block c.args.version in
    let same : c.config.result.now ≡ node.config = c.config.ensures in
    let same_number : c.number.result ≡ node.number = c.number.ensures ∙ ap (λ (n : SeenNode). n.number) c.in_ok-commit.ensures.ok in
    let fits : Fits node.config slot = subst (λ (k : Numbers). Fits k (version_slot c.args.ask.now.block c.args.version)) same c.in_ok-piece.ensures.fits in
    let piece : IsPieceOf slot c.deref_mut.result.now = c.deref_mut.ensures.value ∙ c.in_ok-piece.ensures.piece in
    let good = version_good node c.args.ask.now c.args.version c.requires.added fits in
    deed_done D.moment D.left_since D.pending D.seen node (Answers c.args.ask.now) slot (version_after node c.args.ask.now c.args.version c.requires.added) (version_slots node c.args.ask.now c.args.version c.requires.added) c.args.disk.now c.keep_slot.new.disk c.requires.kept.state c.config.result.now c.number.result same same_number (c.args.count + 1) good (λ here. c.in_ok-keep_slot.ensures.kept slot here piece) (λ here. c.in_ok-keep_slot.ensures.slots slot here piece)
