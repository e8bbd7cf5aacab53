use Rattle.std.proofs.Common.{◌≡◌, ◌∙◌, ◌+◌, ◌-◌, ◌<◌, ◌≤◌, ℕ, List, [], ◌∷◌, take, drop, length, inl, inr, sym, ap, subst, arith}
use Rattle.std.specs.List.{All, AllPairs, concat}
use Rattle.std.proofs.lemmas.Bool.{cases_lt}
use Rattle.std.proofs.lemmas.List.{length-take, length-drop, take_rest}
use Rattle.std.proofs.lemmas.List.Elements.{All-append, All-from_recursion}
use Rattle.nbd_front.specs.declared.request.Request.{Request}
use Rattle.nbd_front.specs.Requests.{request_of}
use Rattle.store_front.specs.declared.round.Asked.{Asked}
use Rattle.store_front.specs.Blocks.{first_of, end_of}
use Rattle.store_front.specs.Rounds.{requests_of, blocks_read, needed, with_blocks, AreSeparate, IsAsked}
use Rattle.store_front.specs.Touching.{HasRoom, HasTouched}
use Rattle.store_front.proofs.Reaching.{ends_within}
use Rattle.store_front.proofs.Rounding.{one_request, one_touched, round_below}
use Rattle.store_front.proofs.Touching.{AreKnown, known_more, apart_more}
use Rattle.store_front.specs.Rounds.{BeginsWithRequest}
use Rattle.store_front.specs.Standings.{IsStanding}
use Rattle.store_front.proofs.Ending.{none_stands}
use Rattle.store_front.proofs.round.take_round.Goals as goal
use Rattle.store_front.proofs.round.take_round.Goals.{in-Whole+then-not-takes, in_default}

pub loop-request-preserved : goal.loop-request-preserved
loop-request-preserved c =
    let input = c.args.input.now in
    let config = c.args.config.now in
    let inv = c.loop-request.invariant in
    let len = c.loop-request.len in
    let old = c.loop-request.asked.items in
    let next = c.asked_of-next.result in
    let e = c.asked_of-next.ensures in
    let end = len + length next.bytes.now in
    let items = c.in_ok-push.ensures.items in
    let count : end - len ≡ length next.bytes.now = omega arith in
    let here : next.bytes.now ≡ take (end - len) (drop len input) = e.bytes ∙ ap (take (length next.bytes.now)) (take_rest input len) ∙ ap (λ n. take n (drop len input)) (sym count) in
    let is : c.in-Whole.request ≡ request_of next.bytes.now = sym e.request ∙ e.asked.is in
    let more = c.in_ok-add.ensures.more in
    let added : c.add.new.self.read.keys ≡ with_blocks c.loop-request.touched.read.keys (needed config (request_of next.bytes.now)) =
    subst (λ (q : Request). c.add.new.self.read.keys ≡ with_blocks c.loop-request.touched.read.keys (needed config q)) is c.in_ok-add.ensures.read in
    let touched : HasTouched config c.add.new.self (request_of next.bytes.now) = subst (HasTouched config c.add.new.self) is c.in_ok-add.ensures.touched in
    let blocks = c.blocks_of.ensures in
    let room : (k : ℕ) → first_of config (request_of next.bytes.now) ≤ k → k < end_of config (request_of next.bytes.now) → HasRoom c.loop-request.touched (request_of next.bytes.now).kind k =
    subst (λ (q : Request). (k : ℕ) → first_of config q ≤ k → k < end_of config q → HasRoom c.loop-request.touched q.kind k) is
    (λ k low high. c.takes.ensures.room c.if-not-takes.false k (omega (arith, blocks.first, low)) (omega (arith, blocks.end, high))) in
    record {
      asked = subst (All IsAsked) (sym items) (All-append IsAsked old (next ∷ []) inv.asked (All-from_recursion IsAsked (next ∷ []) (e.asked, tt)));
      apart = subst (λ (xs : List Asked). AllPairs (AreSeparate config) (requests_of xs)) (sym items) (apart_more config c.loop-request.touched old next inv.known inv.apart room);
      known = subst (λ (xs : List Asked). AreKnown config c.add.new.self (requests_of xs)) (sym items) (known_more config c.loop-request.touched c.add.new.self old next more inv.known touched);
      first = λ none. absurd (omega (arith, none, e.asked.whole.size));
      fits = omega (arith, e.len, length-take (length input - len) (drop len input), length-drop len input, inv.fits);
      front = subst (λ (xs : List Asked). take end input ≡ concat (requests_of xs)) (sym items) (one_request input old next len end (omega arith) inv.front here);
      read = subst (λ (xs : List Asked). c.add.new.self.read.keys ≡ blocks_read config (requests_of xs)) (sym items)
          (one_touched config old next c.loop-request.touched.read.keys c.add.new.self.read.keys inv.read added);
    }

pub returns-clause-blocks : goal.returns-clause-blocks
returns-clause-blocks c =
    let sized = c.size-valid.ensures.valid.size in
    round_below c.args.config.now c.loop-request.touched.read.keys (requests_of c.loop-request.asked.items) (λ r. ends_within c.args.config.now r sized.0) c.loop-request.invariant.read

pub returns-clause-some : goal.returns-clause-some
returns-clause-some c = λ there. elim (cases_lt 0 c.loop-request.len) [
  | inl some ↦ some
  | inr none ↦ absurd (nothing there (omega (arith, none)))
]
  where
    nothing : BeginsWithRequest c.args.input.now → c.loop-request.len ≡ 0 → ⊥
    nothing there zero =
        let input = c.args.input.now in
        let all : take (length input - c.loop-request.len) (drop c.loop-request.len input) ≡ input = take_rest input c.loop-request.len ∙ ap (λ n. drop n input) zero in
        elim c.match-at_front.branch [
          | in-Whole+then-not-takes w ↦ (let e = w.takes.ensures.first (c.loop-request.invariant.first zero) in let f = w.if-not-takes.true in cc)
          | in_default w ↦ none_stands c.at_front.result input (subst (IsStanding c.at_front.result) all c.at_front.ensures.is) there w.in_default.not-Whole
        ]
