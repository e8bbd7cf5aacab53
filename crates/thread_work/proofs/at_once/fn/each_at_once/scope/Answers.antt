-- Lemmas of `Goings`.
use Rattle.std.proofs.Common.{◌≡◌, ℕ, true, false, sym, subst, ◌∙◌, Vec}
use Rattle.thread_work.specs.declared.at_once.Begun.{Begun}
use Rattle.thread_work.specs.Pairwise.{Beside}
use Rattle.thread_work.specs.Starts.{GoesBy, IsBegun}
use Rattle.thread_work.proofs.Goings.{through, all_worked, all_same}
use Rattle.thread_work.proofs.at_once.fn.each_at_once.scope.Goals as goal

pub returns-then-value : goal.returns-then-value
returns-then-value g c =
    let work = c.captures.shared.now.work.now in
    let works = g.C.ThreadWork.works work in
    let word = c.say-word.result.value in
    let states = c.captures.states.items in
    let ended = c.finish_all-ended.result in
    let go : word ≡ true = sym c.value.ensures ∙ c.if-value.true in
    let by : Beside (λ (i : ℕ) (p q : g.row.P.Denot). GoesBy works word p q) states ended.items = through (λ (p : g.row.P.Denot) (b : Begun g.row.P.Denot g.row.C.Denot). IsBegun g.C.ThreadWork.works work p b) (GoesBy works word) states c.begin_all-begun.result.items ended.items c.begin_all-begun.ensures.states c.finish_all-ended.ensures in
    record {
      whole = λ worked is. let e : ended ≡ worked = cc in subst (λ (v : Vec g.row.P.Denot _). Beside (λ (i : ℕ) (p q : g.row.P.Denot). works p q) states v.items) e (all_worked works word states ended.items by go);
      nobody = λ same is. absurd cc;
    }

pub returns : goal.returns
returns g c =
    let work = c.captures.shared.now.work.now in
    let works = g.C.ThreadWork.works work in
    let word = c.say-word.result.value in
    let states = c.captures.states.items in
    let ended = c.finish_all-ended.result in
    let stay : word ≡ false = sym c.value.ensures ∙ c.if-value.false in
    let by : Beside (λ (i : ℕ) (p q : g.row.P.Denot). GoesBy works word p q) states ended.items = through (λ (p : g.row.P.Denot) (b : Begun g.row.P.Denot g.row.C.Denot). IsBegun g.C.ThreadWork.works work p b) (GoesBy works word) states c.begin_all-begun.result.items ended.items c.begin_all-begun.ensures.states c.finish_all-ended.ensures in
    record {
      whole = λ worked is. absurd cc;
      nobody = λ same is. let e : ended ≡ same = cc in subst (λ (v : Vec g.row.P.Denot _). v.items ≡ states) e (all_same works word states ended.items by stay);
    }
