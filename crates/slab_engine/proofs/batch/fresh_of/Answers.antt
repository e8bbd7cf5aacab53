use Rattle.std.proofs.Common.{◌≡◌, length, ◌∙◌, ap, arith}
use Rattle.sqlite_disk.specs.Digest.{digest}
use Rattle.slab_layout.specs.Heads.{head_bytes}
use Rattle.slab_layout.specs.Data.{data_of}
use Rattle.slab_engine.specs.Batches.{head_for}
use Rattle.slab_engine.proofs.Sizes.{head_long, data_long}
use Rattle.slab_engine.proofs.batch.fresh_of.Goals as goal

pub returns-clause-fresh : goal.returns-clause-fresh
returns-clause-fresh c =
    let v = c.args.version.now in
    let check : c.digest_of.result ≡ digest c.args.key (data_of v) = c.digest_of.ensures.value ∙ ap (digest c.args.key) (c.deref.ensures.value ∙ c.in_ok-data.ensures) in
    let head : c.in_ok-bytes.bytes.items ≡ head_bytes c.args.key (head_for c.args.key c.args.block v c.args.number) =
    c.in_ok-bytes.ensures ∙ ap (λ n. head_bytes c.args.key (record { block = c.args.block; stamp = v.stamp; number = c.args.number; data_check = n })) check in
    let stamp = c.stamp_ranges.ensures in
    let formed = c.formed.ensures in
    record {
      slot = c.from.ensures;
      head = head;
      body = c.in_ok-data.ensures;
      sizes = record {
        slot = (let a = c.from.ensures in let b = c.requires.slot in omega (arith, a, b));
        head = ap length head ∙ head_long c.args.key (head_for c.args.key c.args.block v c.args.number) stamp.verifier;
        body = ap length c.in_ok-data.ensures ∙ data_long c.args.config.now v formed.0 c.requires.sums c.requires.share;
      };
      place = record {
        block = c.ranges.block.fits;
        time = stamp.time;
        client = stamp.client;
        verifier = stamp.verifier;
        number = c.ranges.number.fits;
        data_check = (let a = c.digest_of.type_inv in omega (arith, a, check));
      };
      digests = record { count = c.requires.sums; digests = formed.0 };
    }
