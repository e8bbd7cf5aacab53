-- The configuration that a header's bytes tell.
use Rattle.std.specs.Prelude.{ℕ, List, slice_index}
use Rattle.quorum_rules.specs.Limits.{Numbers}
use Rattle.quorum_rules.specs.Faults.{numbers}
use Rattle.quorum_rules.specs.declared.Edition.{Edition}
use Rattle.slot_disk.specs.Slots.{word_at}

-- that of an edition, with the numbers that the bytes have
abbrev pub config_in : Edition → List ℕ → Numbers
config_in e bytes =
    numbers e (slice_index bytes 9) (slice_index bytes 10) (slice_index bytes 11) (slice_index bytes 12) (slice_index bytes 13) (word_at bytes 16) (word_at bytes 20)
