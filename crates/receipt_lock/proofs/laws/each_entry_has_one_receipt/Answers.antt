use Rattle.receipt_lock.proofs.Receipts.{each_has_one, each_stands, adds_up, count_up}
use Rattle.receipt_lock.proofs.laws.each_entry_has_one_receipt.Goals as goal

pub returns-clause-one : goal.returns-clause-one
returns-clause-one g c begun now chits is = each_has_one begun now chits is

pub returns-clause-stands : goal.returns-clause-stands
returns-clause-stands g c begun now chits is = each_stands begun now chits is

pub returns-clause-entries : goal.returns-clause-entries
returns-clause-entries g c begun now chits is = adds_up begun now chits is

pub returns-clause-count : goal.returns-clause-count
returns-clause-count g c begun now chits is = count_up begun now chits is
