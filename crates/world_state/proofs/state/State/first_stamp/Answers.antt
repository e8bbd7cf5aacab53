use Rattle.std.proofs.Common.{subst, ap, ◌∙◌, ◌≡◌}
use Rattle.protocol.specs.Setting.{first_stamp}
use Rattle.world_state.specs.Worlds.{setting_in}
use Rattle.world_state.proofs.state.State.first_stamp.Goals as goal
use Rattle.wire_forms.specs.declared.first.First.{First}
use Rattle.protocol.specs.Instance.{setting}
use Rattle.protocol.proofs.lemmas.Firsts.{first_stamp_is}

-- src/play.rt:175:5
pub returns : goal.returns
returns c =
    let h = c.self.invariant in
    let e : c.self.inside.first.stamp ≡ first_stamp (setting c.self.inside.config) = ap (λ (f : First). f.stamp) h.1 ∙ first_stamp_is c.self.inside.config h.0.valid in
    subst (λ v. c.self.inside.first.stamp ≡ first_stamp (setting_in v)) c.self.view_is e
