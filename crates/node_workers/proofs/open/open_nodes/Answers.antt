-- Lemmas of `Opening`.
use Rattle.std.proofs.Common.{◌≡◌, ◌++◌, ◌∷◌, [], ◌+◌, length, length-append, map, sym, ap, subst, ◌∙◌, refl, rules}
use Rattle.std.specs.declared.option.Option.TheVariants.{Some}
use Rattle.std.specs.Prelude.{slice_get}
use Rattle.std.specs.Vec.Iter.{into_iter_items, into_iter_len}
use Rattle.std.proofs.lemmas.List.{map-append}
use Rattle.thread_work.proofs.lemmas.Places.{walk_on, walk_end}
use Rattle.node_workers.specs.Workers.{WorkerView}
use Rattle.node_workers.specs.declared.thread_state.ThreadState.TheVariants.{Node}
use Rattle.node_workers.specs.Portions.{AreSpread}
use Rattle.node_workers.specs.ThreadStates.{nodes_in, clients_in}
use Rattle.node_workers.specs.Opened.{IsWorkerOf}
use Rattle.node_workers.proofs.Opening.{UpTo, AreLeft, up_to_none, up_to_more, up_to_all, all_left, next_left, none_spread, spread_more, node_nodes, node_clients, here_of}
use Rattle.node_workers.proofs.open.open_nodes.Goals as goal

pub loop-cell-init : goal.loop-cell-init
loop-cell-init g c =
    let gives = c.into_iter-cell-iterator.ensures.into_iter_gives in
    let none = c.new-states.ensures.items in
    let nodes : nodes_in c.new-states.result.items ≡ [] = ap (λ l. nodes_in l) none in
    let count : length c.in_ok-putters.putters.items ≡ length c.args.clients.now = search rules in (
      [],
      (sym gives.0, gives.1 ∙ c.args.cells.ok.0 ∙ ap length (sym gives.0)),
      subst (UpTo (IsWorkerOf c.args.clock.now c.args.clients.now c.args.answer_putters.items) c.args.cells.items) (sym nodes) (up_to_none (IsWorkerOf c.args.clock.now c.args.clients.now c.args.answer_putters.items) c.args.cells.items),
      ap length nodes,
      ap (λ l. clients_in l) none,
      subst (λ l. AreSpread (length c.args.clients.now) (map (λ (w : WorkerView). w.asks) l) c.in_ok-putters.putters.items) (sym nodes) (none_spread (length c.args.clients.now) c.in_ok-putters.putters.items count c.in_ok-putters.ensures.empty),
      all_left c.args.answer_putters.items c.reverse.new.self.items c.reverse.ensures.items,
    )

pub loop-cell-preserved : goal.loop-cell-preserved
loop-cell-preserved g c =
    let inv = c.loop-cell.invariant in
    let steps = c.in-Some.ensures.steps in
    let cells = c.args.cells.items in
    let clock = c.args.clock.now in
    let clients = c.args.clients.now in
    let answer_putters = c.args.answer_putters.items in
    let cell = c.in-Some.cell in
    let rest = into_iter_items c.next.new.self in
    let worker = c.in_ok-worker.worker in
    let is = c.in_ok-worker.ensures in
    let asks = c.in_ok-asks.asks in
    let box = c.in_ok-asks.ensures.taker in
    let was = c.loop-cell.states.items in
    let pushed = c.in_ok-push.ensures.items in
    let nodes : nodes_in c.push.new.self.items ≡ nodes_in was ++ worker ∷ [] = ap (λ l. nodes_in l) pushed ∙ node_nodes was (Node worker) worker refl in
    let none : clients_in c.push.new.self.items ≡ clients_in was = ap (λ l. clients_in l) pushed ∙ node_clients was (Node worker) worker refl in
    let at : slice_get cells (length (nodes_in was)) ≡ Some cell = here_of cells inv.0 rest cell (length (nodes_in was)) (inv.1.0 ∙ ap (λ l. inv.0 ++ l) steps.0) inv.3 in
    let next = next_left answer_putters c.loop-cell.answer_putters.items c.pop.new.self.items c.in-Some-pop.row (length inv.0) inv.6 c.in-Some-pop.ensures.items in
    let of : IsWorkerOf clock clients answer_putters (length (nodes_in was)) cell worker = record {
      is = ap (λ (w : WorkerView). w.cell) is ∙ c.go_on.ensures;
      own = c.known.ensures.own.0;
      box = record {
        ticks = ap (λ (w : WorkerView). w.asks.inbox.place.clock.value) is ∙ box.ticks;
        cell_shard = ap (λ (w : WorkerView). w.asks.inbox.place.cell_shard) is ∙ box.cell_shard ∙ c.cell_shard.ensures;
        clients = ap (λ (w : WorkerView). w.asks.inbox.place.clients.value) is ∙ box.clients;
        new = ap (λ (w : WorkerView). w.asks.heard) is ∙ box.new;
      };
      answer_putters = ap (slice_get answer_putters) inv.3 ∙ next.1 ∙ ap (λ l. Some l) (sym (ap (λ (w : WorkerView). w.answers) is ∙ c.into_vec.ensures));
      none = ap (λ (w : WorkerView). w.sents) is;
    } in
    let boxes : map (λ (w : WorkerView). w.asks) (nodes_in c.push.new.self.items) ≡ map (λ (w : WorkerView). w.asks) (nodes_in was) ++ asks ∷ [] =
    ap (map (λ (w : WorkerView). w.asks)) nodes ∙ map-append (λ (w : WorkerView). w.asks) (nodes_in was) (worker ∷ []) ∙ ap (λ b. map (λ (w : WorkerView). w.asks) (nodes_in was) ++ b ∷ []) (ap (λ (w : WorkerView). w.asks) is) in
    let spread = spread_more (length clients) (map (λ (w : WorkerView). w.asks) (nodes_in was)) c.loop-cell.putters.items c.deal.new.portions.items asks c.in_ok-asks.more inv.5 c.in_ok-asks.ensures.putters c.in_ok-deal.ensures in (
      inv.0 ++ cell ∷ [],
      walk_on cells inv.0 (into_iter_items c.loop-cell.cell-iterator) rest cell (into_iter_len c.loop-cell.cell-iterator) (into_iter_len c.next.new.self) inv.1 steps.0 steps.1,
      subst (UpTo (IsWorkerOf clock clients answer_putters) cells) (sym nodes) (up_to_more (IsWorkerOf clock clients answer_putters) cells (nodes_in was) cell worker inv.2 at of),
      ap length nodes ∙ length-append (nodes_in was) (worker ∷ []) ∙ ap (λ n. n + 1) inv.3 ∙ sym (length-append inv.0 (cell ∷ [])),
      none ∙ inv.4,
      subst (λ l. AreSpread (length clients) l c.deal.new.portions.items) (sym boxes) spread,
      subst (AreLeft answer_putters c.pop.new.self.items) (sym (length-append inv.0 (cell ∷ []))) next.0,
    )

pub returns-clause-nodes : goal.returns-clause-nodes
returns-clause-nodes g c =
    let inv = c.loop-cell.invariant in
    let all = walk_end c.args.cells.items inv.0 (into_iter_items c.loop-cell.cell-iterator) (into_iter_len c.loop-cell.cell-iterator) inv.1 c.in-None.ensures.steps.0 in
    up_to_all (IsWorkerOf c.args.clock.now c.args.clients.now c.args.answer_putters.items) c.args.cells.items (nodes_in c.loop-cell.states.items) inv.2 (inv.3 ∙ ap length (sym all))
