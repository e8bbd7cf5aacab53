use Rattle.std.proofs.Common.{◌∙◌, ◌++◌, ◌+◌, Option, map, take, sym, ap}
use Rattle.std.specs.Prelude.{option_to_list}
use Rattle.run_words.specs.declared.record.Record.{Record as Told}
use Rattle.protocol.specs.Seen.{record_of}
use Rattle.plan_followed.specs.declared.prunes.BlockStamp.{BlockStamp}
use Rattle.client_threads.specs.Reads.{early_by, late_by, early_in, late_in}
use Rattle.client_threads.proofs.Walking.{filter_more, walked_more}
use Rattle.client_threads.proofs.reads.add_reads.Goals as goal

pub loop-record-preserved : goal.loop-record-preserved
loop-record-preserved c =
    let i = c.loop-record.record-index in
    let rs = c.args.records.now in
    let n = c.args.begun in
    let x = c.record-item.result in
    let early = ap (λ (r : Told). early_by n (record_of r)) (sym c.record-item.is) ∙ sym c.early_by.ensures in
    let late = ap (λ (r : Told). late_by n (record_of r)) (sym c.record-item.is) ∙ sym c.late_by.ensures in
    record {
      early = walked_more c.args.early.now.items c.loop-record.early.items c.add.new.given.items (early_in n (map record_of (take i rs))) (early_in n (map record_of (take (i + 1) rs))) c.early_by.result
          c.in_ok-add.ensures c.loop-record.invariant.early
          (filter_more record_of (early_by n) rs i x c.loop-record-test.true ∙ ap (λ (o : Option BlockStamp). early_in n (map record_of (take i rs)) ++ option_to_list o) early);
      late = walked_more c.args.late.now.items c.loop-record.late.items c.add-in-loop-record.new.given.items (late_in n (map record_of (take i rs))) (late_in n (map record_of (take (i + 1) rs))) c.late_by.result
          c.in_ok-add-2.ensures c.loop-record.invariant.late
          (filter_more record_of (late_by n) rs i x c.loop-record-test.true ∙ ap (λ (o : Option BlockStamp). late_in n (map record_of (take i rs)) ++ option_to_list o) late);
    }
