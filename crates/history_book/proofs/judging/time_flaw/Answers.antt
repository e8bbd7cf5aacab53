use Rattle.history_book.proofs.Times.{no_end, no_start, low_starts, front_length, found}
use Rattle.history_book.proofs.judging.time_flaw.Goals as goal

pub returns-in_default-clause-none : goal.returns-in_default-clause-none
returns-in_default-clause-none c = no_end c.args.entries.now c.args.place c.args.entry.now c.requires.there c.in_default.is

pub returns-in_default-latest_start-clause-none : goal.returns-in_default-latest_start-clause-none
returns-in_default-latest_start-clause-none c = no_start c.args.entries.now c.args.place c.args.entry.now c.args.latest_start c.requires.there c.requires.starts c.in_default-latest_start.is

pub returns-then-latest-end-clause-none : goal.returns-then-latest-end-clause-none
returns-then-latest-end-clause-none c = low_starts c.args.entries.now c.args.place c.args.entry.now c.args.latest_start c.in-Some.end c.in-Some-latest_start.latest c.requires.there c.requires.starts c.in-Some.is c.in-Some-latest_start.is c.if-latest-end.true

pub slice_bounds-first_after-end : goal.slice_bounds-first_after-end
slice_bounds-first_after-end c = front_length c.args.entries.now c.args.place c.args.entry.now c.requires.there

pub returns-clause-none : goal.returns-clause-none
returns-clause-none c =
    (found c.args.entries.now c.args.place c.args.entry.now c.in-Some.end c.first_after.result c.requires.there c.in-Some.is (record { none = c.first_after.ensures.none; first = c.first_after.ensures.first; there = c.first_after.ensures.there })).none

pub returns-clause-flaw : goal.returns-clause-flaw
returns-clause-flaw c =
    (found c.args.entries.now c.args.place c.args.entry.now c.in-Some.end c.first_after.result c.requires.there c.in-Some.is (record { none = c.first_after.ensures.none; first = c.first_after.ensures.first; there = c.first_after.ensures.there })).flaw

pub returns-clause-within : goal.returns-clause-within
returns-clause-within c =
    (found c.args.entries.now c.args.place c.args.entry.now c.in-Some.end c.first_after.result c.requires.there c.in-Some.is (record { none = c.first_after.ensures.none; first = c.first_after.ensures.first; there = c.first_after.ensures.there })).within
