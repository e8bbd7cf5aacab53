use Rattle.std.proofs.Common.{refl}
use Rattle.protocol.specs.World.{sent}
use Rattle.world_state.specs.contracts.state.State.{the_view}
use Rattle.world_state.specs.Worlds.{setting_in, world_in}
use Rattle.world_state.proofs.lemmas.Became.{known_as}
use Rattle.world_state.proofs.state.State.send.Goals as goal

pub returns-clause-ok : goal.returns-clause-ok
returns-clause-ok c =
    known_as (the_view c.self.inside) c.args.self.now _ c.self.view_is (λ v. sent (setting_in v) (world_in v) c.args.place c.args.mail)
    (record {
      now = (λ j. record (world_in (the_view c.self.inside)) { pool = c.in_ok-append.ensures.ok j; place = c.args.place });
      config = refl;
      lying_nodes = refl;
      lying_clients = refl;
    })
