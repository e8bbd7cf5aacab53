use Rattle.std.proofs.Common.{◌++◌, sym, ap, ◌∙◌}
use Rattle.std.specs.Bool.{if◌then◌else◌}
use Rattle.std.specs.Result.{is_ok}
use Rattle.receipt_lock.specs.Chits.{found_list}
use Rattle.thread_tests.proofs.vaults.add_at.Goals as goal

-- the log that is given back begins with the log that was taken
pub give-requires-clause-grew : goal.give-requires-clause-grew
give-requires-clause-grew g c =
    let taken = c.take-log.result.entries.items in
    let more = c.args.entries.now in
    let found = ap (λ h. found_list h.holds) (sym c.take-log.ensures.chit) in
    (more, c.extend_from_slice.ensures.items ∙ ap (λ r. if (is_ok r) then (taken ++ more) else taken) c.expect.ensures ∙ ap (λ l. l ++ more) found)
