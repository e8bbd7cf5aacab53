use Rattle.std.proofs.Common.{[], ◌++◌, length, arith, ap, length-append}
use Rattle.receipt_lock.specs.Chits.{all_mine}
use Rattle.thread_tests.proofs.vaults.take_turns_side_by_side.Goals as goal

-- the log has an entry for each receipt
pub returns : goal.returns
returns g c =
    let vault = c.in_ok-vault.vault in
    let chits = c.in_ok-chits.chits in
    let first = c.join-first.result.0 in
    let second = c.join-first.result.1 in
    let all = c.each_entry_has_one_receipt.ensures.count vault.id.begun c.close.result.entries.items chits c.close.ensures in
    let receipts = ap (λ l. length (all_mine l)) c.in_ok-chits.ensures in
    let begun = ap length c.in_ok-vault.ensures.vault.1 in
    let one = c.join-first.ensures.first.1 in
    let other = c.join-first.ensures.second.1 in
    omega (arith, all, receipts, begun, length-append first.mine (second.mine ++ []), length-append second.mine [], one, other, ap length c.in_ok-vault.ensures.first.1, ap length c.in_ok-vault.ensures.second.1)
