use Rattle.std.proofs.Common.{take}
use Rattle.std.specs.List.{AllByRecursion}
use Rattle.message_texts.specs.Texts.{IsDigest}
use Rattle.command_texts.proofs.forms.form_digests.Given as goal

-- the digests so far
abbrev pub invariant-loop-digest : goal.invariant-loop-digest
invariant-loop-digest l = AllByRecursion IsDigest (take l.digest-index l.digests)
