use Rattle.std.proofs.Common.{◌≡◌, ◌+◌, ℕ, [], length, ◌∙◌, ap, arith}
use Rattle.quorum_rules.specs.Limits.{Numbers}
use Rattle.slot_disk.specs.Slots.{body_len}
use Rattle.version_disk.specs.declared.prune.Prune.{Prune}
use Rattle.version_disk.proofs.Pruning.{long_enough, piece_is, behind_is, state_more, written_more, few_more, room_more}
use Rattle.version_disk.proofs.prune.prune_each.Goals as goal

pub split_at-requires : goal.split_at-requires
split_at-requires c =
    let i = c.loop-prune.invariant in
    let size : c.body_size.result + 1 ≡ body_len c.args.node.now.config + 1 = ap (λ (n : ℕ). n + 1) c.body_size.ensures.size ∙ ap (λ (k : Numbers). body_len k + 1) c.config.ensures in
    long_enough c.args.node.now c.loop-prune.node c.args.prunes.now c.loop-prune.prune-index (record { block = 0; stamp = record { time = 0; client = 0; verifier = [] } }) c.loop-prune-test.true c.requires.good i.state
    c.loop-prune.rest.now i.rest (c.body_size.result + 1) size

pub prune_next-requires-clause-piece : goal.prune_next-requires-clause-piece
prune_next-requires-clause-piece c =
    let i = c.loop-prune.invariant in
    let size : c.body_size.result + 1 ≡ body_len c.args.node.now.config + 1 = ap (λ (n : ℕ). n + 1) c.body_size.ensures.size ∙ ap (λ (k : Numbers). body_len k + 1) c.config.ensures in
    c.split_at.ensures.front
    ∙ piece_is c.args.node.now c.loop-prune.node c.args.prunes.now c.loop-prune.prune-index (record { block = 0; stamp = record { time = 0; client = 0; verifier = [] } }) c.loop-prune-test.true c.requires.good i.state
    c.loop-prune.rest.now i.rest (c.body_size.result + 1) size

pub loop-prune-preserved : goal.loop-prune-preserved
loop-prune-preserved c =
    let i = c.loop-prune.invariant in
    let node = c.args.node.now in
    let prunes = c.args.prunes.now in
    let k = c.loop-prune.prune-index in
    let size : c.body_size.result + 1 ≡ body_len node.config + 1 = ap (λ (n : ℕ). n + 1) c.body_size.ensures.size ∙ ap (λ (k : Numbers). body_len k + 1) c.config.ensures in
    let d : Prune = record { block = 0; stamp = record { time = 0; client = 0; verifier = [] } } in
    let behind = c.split_at.ensures.back ∙ behind_is node c.loop-prune.node prunes k d c.loop-prune-test.true c.requires.good i.state c.loop-prune.rest.now i.rest (c.body_size.result + 1) size in
    record {
      state = state_more node c.loop-prune.node prunes k d c.loop-prune-test.true c.requires.good i.state c.prune_next.new.node c.prune_next.ensures.state;
      written = written_more node c.loop-prune.node prunes k d c.loop-prune-test.true c.requires.good i.state
          c.loop-prune.written.pieces.items c.prune_next.new.written.pieces.items c.loop-prune.written.count c.prune_next.new.written.count i.written c.prune_next.ensures.pieces c.prune_next.ensures.count;
      rest = behind;
      few = few_more node c.loop-prune.node prunes k d c.loop-prune-test.true c.requires.good i.state c.loop-prune.written.count c.prune_next.new.written.count i.few c.prune_next.ensures.count;
      room = (
          let room = room_more node c.loop-prune.node prunes k d c.loop-prune-test.true c.requires.good i.state c.loop-prune.written.pieces.items c.prune_next.new.written.pieces.items c.loop-prune.rest.now _ _ i.rest
          c.prune_next.ensures.pieces i.room c.prune_next.ensures.capacity in
          omega (arith, room, ap length behind)
          );
      config = ap (λ n. n.config) c.prune_next.ensures.state ∙ i.config;
      number = ap (λ n. n.number) c.prune_next.ensures.state ∙ i.number;
    }
