use Rattle.std.proofs.Common.{map, ap}
use Rattle.wire_forms.specs.declared.first.First.{First}
use Rattle.protocol.specs.Seen.{record_of}
use Rattle.journals.specs.Journals.{setting_for}
use Rattle.journal_records.specs.Records.{AreAllRecords}
use Rattle.plan_followed.specs.Asked.{conduct_of}
use Rattle.command_texts.proofs.Told.{last_world, are_of_run, tells_plan}
use Rattle.command_texts.proofs.report.told_history.Goals as goal

pub history_of_records-requires : goal.history_of_records-requires
history_of_records-requires c =
    let j = c.args.journals.now in
    let runs = c.followed_plans.ensures.of_run in
    let there = c.merged_lines.ensures.there in
    let of = runs c.args.plan.now j c.args.drawn c.requires.run in
    let all : AreAllRecords j (map record_of c.by_start-records.result) = c.by_start-records.ensures (conduct_of c.args.plan.now.rules) j of c.requires.run.follows.are_for.ascend c.requires.records in
    let are = are_of_run runs there c.args.plan.now j c.args.drawn c.requires.run c.merged_lines.ensures.place c.all_records.ensures.had c.all_records.ensures.are c.few_records.ensures c.requires.clock
    (map record_of c.by_start-records.result) all c.in_ok-first.first.stamp (ap (λ (f : First). f.stamp) c.in_ok-first.ensures) in
    (setting_for j, last_world runs there c.args.plan.now j c.args.drawn c.requires.run, rw c.as_slice.ensures are)

pub returns : goal.returns
returns c =
    let j = c.args.journals.now in
    let runs = c.followed_plans.ensures.of_run in
    let there = c.merged_lines.ensures.there in
    let of = runs c.args.plan.now j c.args.drawn c.requires.run in
    let all : AreAllRecords j (map record_of c.by_start-records.result) = c.by_start-records.ensures (conduct_of c.args.plan.now.rules) j of c.requires.run.follows.are_for.ascend c.requires.records in
    let are = are_of_run runs there c.args.plan.now j c.args.drawn c.requires.run c.merged_lines.ensures.place c.all_records.ensures.had c.all_records.ensures.are c.few_records.ensures c.requires.clock
    (map record_of c.by_start-records.result) all c.in_ok-first.first.stamp (ap (λ (f : First). f.stamp) c.in_ok-first.ensures) in
    tells_plan runs there c.args.plan.now j c.args.drawn c.requires.run are.fits c.in_ok-history.history
    (c.in_ok-history.ensures (setting_for j) (last_world runs there c.args.plan.now j c.args.drawn c.requires.run) (rw c.as_slice.ensures are))
