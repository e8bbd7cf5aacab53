use Rattle.std.proofs.Common.{◌≡◌, ℕ, ◌+◌, ◌++◌, refl, sym, ap, ◌∙◌, arith}
use Rattle.std.proofs.lemmas.List.{append-nil}
use Rattle.run_teller.specs.Columns.{clients_among, client_columns}
use Rattle.run_teller.proofs.Growing.{client_more}
use Rattle.run_teller.proofs.columns.add_clients.Goals as goal

pub loop-client-init : goal.loop-client-init
loop-client-init c = (0, refl, sym (append-nil c.args.columns.now.items))

pub loop-client-preserved : goal.loop-client-preserved
loop-client-preserved c =
    let h = c.loop-client.invariant in
    (h.0 + 1, omega (arith, h.1), client_more c.args.liars.now c.args.named.now h.0 c.loop-client.client c.args.columns.now.items c.loop-client.columns.items c.add_client.new.columns.items h.1 h.2 c.in_ok-add_client.ensures)

pub returns : goal.returns
unfolding client_columns
returns c =
    let h = c.loop-client.invariant in
    let all : h.0 ≡ 1000 =
    let e = h.1 in
    let end = c.loop-client.auto in
    let stop = c.loop-client-test.false in
    omega arith in
    h.2 ∙ ap (λ (n : ℕ). c.args.columns.now.items ++ clients_among n c.args.liars.now c.args.named.now) all
