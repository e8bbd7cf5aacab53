use Rattle.std.proofs.Common.{replicate, refl, ◌∙◌, ap}
use Rattle.world_state.specs.declared.state.State.TheInside.{Inside}
use Rattle.world_state.proofs.FirstWorlds.{liars-begin, world-begin, kept-begin, uses-begin}
use Rattle.world_state.specs.BlockUses.{unused}
use Rattle.world_state.proofs.state.State.new.Goals as goal

pub invariant_of-result : goal.invariant_of-result
invariant_of-result c =
    let w : Inside = record {
      alloc = c.args.alloc;
      config = c.args.config.now;
      first = c.in_ok-of.field-0;
      pool = c.new.result;
      node_slots = c.in_ok-new_node_slots.field-0;
      client_slots = c.in_ok-new_client_slots.field-0;
      records = c.new-2.result;
      uses = c.in_ok-vec.field-0;
      accepted = c.new-3.result;
      place = 0;
    } in
    (kept-begin w c.args.liars.now c.in_ok-new_node_slots.ensures.new c.in_ok-new_client_slots.ensures.new c.in_ok-new_node_slots.ensures.count c.in_ok-new_client_slots.ensures.count c.in_ok-new_node_slots.ensures.valid c.new-2.ensures, c.in_ok-of.ensures, uses-begin w c.args.liars.now c.in_ok-new_node_slots.ensures.new c.in_ok-new_client_slots.ensures.new c.in_ok-new_node_slots.ensures.count c.in_ok-new_client_slots.ensures.count c.new-2.ensures (c.in_ok-vec.ensures.items_if_clones_equal (λ y e. e) ∙ ap (λ n. replicate n unused) c.blocks-2.ensures.is))

pub returns-clause-liars : goal.returns-clause-liars
returns-clause-liars c =
    let w : Inside = record {
      alloc = c.args.alloc;
      config = c.args.config.now;
      first = c.in_ok-of.field-0;
      pool = c.new.result;
      node_slots = c.in_ok-new_node_slots.field-0;
      client_slots = c.in_ok-new_client_slots.field-0;
      records = c.new-2.result;
      uses = c.in_ok-vec.field-0;
      accepted = c.new-3.result;
      place = 0;
    } in
    liars-begin w c.args.liars.now c.in_ok-new_node_slots.ensures.new c.in_ok-new_client_slots.ensures.new c.in_ok-new_node_slots.ensures.count c.in_ok-new_client_slots.ensures.count c.requires

pub returns-clause-start : goal.returns-clause-start
returns-clause-start c =
    let w : Inside = record {
      alloc = c.args.alloc;
      config = c.args.config.now;
      first = c.in_ok-of.field-0;
      pool = c.new.result;
      node_slots = c.in_ok-new_node_slots.field-0;
      client_slots = c.in_ok-new_client_slots.field-0;
      records = c.new-2.result;
      uses = c.in_ok-vec.field-0;
      accepted = c.new-3.result;
      place = 0;
    } in
    world-begin w c.args.liars.now c.in_ok-new_node_slots.ensures.new c.in_ok-new_client_slots.ensures.new c.in_ok-new_node_slots.ensures.count c.in_ok-new_client_slots.ensures.count c.new.ensures c.new-3.ensures c.new-2.ensures refl
