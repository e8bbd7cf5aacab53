-- The order of a history's entries.
use Rattle.std.specs.declared.cmp.Ordering.{Ordering}
use Rattle.std.specs.Ordering.{nat_cmp, then_cmp, on}
use Rattle.protocol.specs.History.{is_read, place_cmp}
use Rattle.history_making.specs.declared.entry.Entry.{Entry}
use Rattle.history_making.specs.Kinds.{full_kind}

-- by block, time, writer, mark, writes before reads, end place, client, start place; no place is above every place
abbrev pub key_cmp : Entry → Entry → Ordering
key_cmp =
    then_cmp (on (λ e. e.block) nat_cmp)
    (then_cmp (on (λ e. e.time) nat_cmp)
    (then_cmp (on (λ e. e.writer) nat_cmp)
    (then_cmp (on (λ e. e.mark) nat_cmp)
    (then_cmp (on (λ e. is_read (full_kind e.kind)) nat_cmp)
    (then_cmp (on (λ e. e.end) place_cmp)
    (then_cmp (on (λ e. e.client) nat_cmp) (on (λ e. e.start) place_cmp)))))))
