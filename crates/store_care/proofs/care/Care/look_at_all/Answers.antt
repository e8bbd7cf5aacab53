use Rattle.std.proofs.Common.{◌<◌, ◌+◌, ℕ, List, [], length, get_or, Option, Vec, Global, refl, sym, ap, subst, ◌∙◌, arith}
use Rattle.std.proofs.lemmas.List.{get_or-map}
use Rattle.std.proofs.lemmas.List.FromFn.{get_or-map-range_with_len}
use Rattle.protocol.specs.Messages.{Version}
use Rattle.protocol.specs.Operations.{Outcome}
use Rattle.store_device.specs.Stores.{SeenStore}
use Rattle.store_care.specs.Given.{given, outcome_at}
use Rattle.store_care.specs.Holdings.{newest_of}
use Rattle.store_care.specs.Steps.{HasLookedAt}
use Rattle.store_care.specs.declared.care.Lacking.{Lacking}
use Rattle.store_care.proofs.Looked.{none_lacking, one_more_lacking, none_looked, one_more_looked}
use Rattle.store_care.proofs.care.Care.look_at_all.Goals as goal

pub overflow_add-block : goal.overflow_add-block
overflow_add-block g c = omega (arith, c.loop-k.invariant.block, c.loop-k-test.true, c.requires.few)

pub look_at-requires : goal.look_at-requires
look_at-requires g c =
    omega (arith, c.loop-k.invariant.block, c.loop-k-test.true, c.requires.there, ap (λ (s : SeenStore _). s.config.blocks) c.loop-k.invariant.same)

pub loop-k-init : goal.loop-k-init
loop-k-init g c =
    let lacking : Lacking = record { again = c.new.result; seats = c.new-2.result } in
    record {
      same = refl;
      block = omega arith;
      seats = refl;
      lacking = none_lacking c.args.store.now.config c.args.first (length c.args.before.now) c.args.outcomes.now lacking c.new.ensures.items c.new-2.ensures.items;
      looked = λ old cfg are. none_looked old c.args.store.now c.args.first c.args.outcomes.now c.args.self.now lacking c.new.ensures.items c.new-2.ensures.items;
    }

pub loop-k-preserved : goal.loop-k-preserved
loop-k-preserved g c =
    let k = c.loop-k.k in
    let first = c.args.first in
    let store = c.args.store.now in
    let told = c.args.outcomes.now in
    let before = c.args.before.now in
    let inv = c.loop-k.invariant in
    let e = c.in_ok-look_at.ensures in
    let mid = c.loop-k.self in
    let new = c.look_at.new.self in
    let lacking = c.loop-k.lacking in
    let noted = c.look_at.new.lacking in
    let newest = c.deref.result.now in
    let lt : k < length before = c.loop-k-test.true in
    let here : HasLookedAt store.config newest store (first + k) (given store.config.size (outcome_at told k)) mid new lacking noted =
    subst (λ (s : SeenStore _). HasLookedAt s.config newest s (first + k) (given s.config.size (outcome_at told k)) mid new lacking noted) inv.same
    (subst (λ (b : ℕ). HasLookedAt c.loop-k.store.config newest c.loop-k.store b (given c.loop-k.store.config.size (outcome_at told k)) mid new lacking noted) inv.block
    (subst (λ (o : Option Outcome). HasLookedAt c.loop-k.store.config newest c.loop-k.store c.loop-k.block (given c.loop-k.store.config.size o) mid new lacking noted)
    c.outcome_at.ensures e.looked)) in
    let item = c.index-before-k.result in
    record {
      same = e.same ∙ inv.same;
      block = omega (arith, inv.block);
      seats = e.seats ∙ inv.seats;
      lacking = one_more_lacking store.config first (length before) told k lt c.requires.there _ lacking noted inv.lacking here.seats;
      looked = λ old cfg are. one_more_looked old store first told k newest c.args.self.now mid new lacking noted cfg
          (c.deref.ensures.value ∙ ap (λ (v : Vec (Option Version) Global). v.items) c.index-before-k.is
          ∙ sym (get_or-map (λ (v : Vec (Option Version) Global). v.items) before k item [] lt)
          ∙ ap (λ (vs : List (List (Option Version))). get_or vs k []) are
          ∙ get_or-map-range_with_len (newest_of old) first (length before) k (first + k) [] lt refl)
          (inv.looked old cfg are) here;
    }
