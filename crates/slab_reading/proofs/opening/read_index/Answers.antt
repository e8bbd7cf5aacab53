use Rattle.std.proofs.Common.{ℕ, List}
use Rattle.slab_reading.proofs.Steps.{none_opened, all_indexed}
use Rattle.slab_reading.proofs.opening.read_index.Goals as goal

pub returns-clause-index : goal.returns-clause-index
returns-clause-index g c clean =
    let bytes : List ℕ = g.F.SlabFile.seen c.args.file.now in
    let none = none_opened c.args.shape c.args.key bytes c.in_ok-opened.opened c.in_ok-opened.ensures.empty in
    all_indexed c.args.shape c.args.key bytes c.read_runs.new.opened (c.in_ok-read_runs.ensures.opened clean none)

pub returns-clause-free : goal.returns-clause-free
returns-clause-free g c clean =
    let bytes : List ℕ = g.F.SlabFile.seen c.args.file.now in
    let none = none_opened c.args.shape c.args.key bytes c.in_ok-opened.opened c.in_ok-opened.ensures.empty in
    (c.in_ok-read_runs.ensures.opened clean none).free

pub returns-clause-last : goal.returns-clause-last
returns-clause-last g c clean =
    let bytes : List ℕ = g.F.SlabFile.seen c.args.file.now in
    let none = none_opened c.args.shape c.args.key bytes c.in_ok-opened.opened c.in_ok-opened.ensures.empty in
    (c.in_ok-read_runs.ensures.opened clean none).last

pub returns-clause-heads : goal.returns-clause-heads
returns-clause-heads g c clean =
    let bytes : List ℕ = g.F.SlabFile.seen c.args.file.now in
    let none = none_opened c.args.shape c.args.key bytes c.in_ok-opened.opened c.in_ok-opened.ensures.empty in
    (c.in_ok-read_runs.ensures.opened clean none).heads
