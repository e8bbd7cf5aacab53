use Rattle.std.proofs.Common.{subst}
use Rattle.std.specs.List.{AllByRecursion}
use Rattle.message_texts.specs.Texts.{IsDigest}
use Rattle.command_texts.proofs.Formed.{sum_bytes, sum_lengths}
use Rattle.command_texts.proofs.forms.form_version.Goals as goal

pub returns : goal.returns
returns c =
    let all = subst (AllByRecursion IsDigest) c.hashes.ensures.value c.form_digests.ensures in
    record {
      stamp = c.form_stamp.ensures;
      sum = record { digests = sum_lengths c.args.version.now.sum all; bytes = sum_bytes c.args.version.now.sum all; few = c.requires.0 };
      fragment = record { bytes = c.as_slice-bytes.ensures.bytes; few = c.requires.1 };
    }
