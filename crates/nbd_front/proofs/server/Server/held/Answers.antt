use Rattle.std.proofs.Common.{◌≡◌, subst, IfOk}
use Rattle.node_device.specs.Held.{held_at, version_of}
use Rattle.nbd_front.specs.Servers.{SeenServer, IsServer}
use Rattle.nbd_front.proofs.Held.{held_is, held_sound, held_zeros}
use Rattle.nbd_front.proofs.server.Server.held.Goals as goal

pub returns-clause-version : goal.returns-clause-version
returns-clause-version c =
    let s = c.args.self.now in
    let d = s.device in
    let block = c.args.block in
    let v = c.self.view_is in
    let is : IsServer d s.served s.place = subst (λ (x : SeenServer). IsServer x.device x.served x.place) v c.self.invariant in
    let found : IfOk c.held.result (λ w. w ≡ version_of d.config c.args.node (held_at d.config d.held block)) =
    subst (λ (x : SeenServer). IfOk c.held.result (λ w. w ≡ version_of x.device.config c.args.node (held_at x.device.config x.device.held block))) v c.held.ensures in
    held_is s is.order c.args.node block c.requires.block c.held.result found

pub returns-clause-sound : goal.returns-clause-sound
returns-clause-sound c =
    let s = c.args.self.now in
    let d = s.device in
    let block = c.args.block in
    let v = c.self.view_is in
    let is : IsServer d s.served s.place = subst (λ (x : SeenServer). IsServer x.device x.served x.place) v c.self.invariant in
    let found : IfOk c.held.result (λ w. w ≡ version_of d.config c.args.node (held_at d.config d.held block)) =
    subst (λ (x : SeenServer). IfOk c.held.result (λ w. w ≡ version_of x.device.config c.args.node (held_at x.device.config x.device.held block))) v c.held.ensures in
    held_sound s is.order c.args.node block c.requires.block c.held.result found

pub returns-clause-unwritten : goal.returns-clause-unwritten
returns-clause-unwritten c never =
    let s = c.args.self.now in
    let v = c.self.view_is in
    let is : IsServer s.device s.served s.place = subst (λ (x : SeenServer). IsServer x.device x.served x.place) v c.self.invariant in
    held_zeros s is.order 0 c.args.block c.requires.block never

pub returns-clause-time : goal.returns-clause-time
returns-clause-time c =
    let s = c.args.self.now in
    let v = c.self.view_is in
    let is : IsServer s.device s.served s.place = subst (λ (x : SeenServer). IsServer x.device x.served x.place) v c.self.invariant in
    is.times c.args.block c.requires.block
