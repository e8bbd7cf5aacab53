use Rattle.std.proofs.Common.{◌≡◌, ◌∷◌, sym, ◌∙◌}
use Rattle.std.specs.Prelude.{codes}
use Rattle.std.proofs.lemmas.Slice.Eq.{bytes_eq-Decides}
use Rattle.text_lines.specs.Lines.{texts}
use Rattle.plan_words.specs.Forms.{field_at, number_at}
use Rattle.plan_words.proofs.FormCauses.{sound_cause, mix_cause, flood_cause}
use Rattle.plan_words.proofs.liars.liar_client.Goals as goal

pub sound_in-requires : goal.sound_in-requires
sound_in-requires c = sym c.second-kind.ensures ∙ (bytes_eq-Decides c.second-kind.result.now (codes "sound")).0 (rw c.as_slice.ensures at (sym c.if-eq.ensures))

pub returns-then-eq : goal.returns-then-eq
returns-then-eq c =
    let fields = texts c.args.fields.now in
    let is : field_at 1 fields ≡ codes "sound" = sym c.second-kind.ensures ∙ (bytes_eq-Decides c.second-kind.result.now (codes "sound")).0 (rw c.as_slice.ensures at (sym c.if-eq.ensures)) in
    rw (sound_cause c.args.config.now fields (number_at 4 (codes "client" ∷ fields)) is) c.sound_in.ensures

pub mix_in-requires : goal.mix_in-requires
mix_in-requires c = sym c.second-kind.ensures ∙ (bytes_eq-Decides c.second-kind.result.now (codes "mix")).0 (rw c.as_slice-2.ensures at (sym c.if-eq-2.ensures))

pub returns-then-eq-2 : goal.returns-then-eq-2
returns-then-eq-2 c =
    let fields = texts c.args.fields.now in
    let is : field_at 1 fields ≡ codes "mix" = sym c.second-kind.ensures ∙ (bytes_eq-Decides c.second-kind.result.now (codes "mix")).0 (rw c.as_slice-2.ensures at (sym c.if-eq-2.ensures)) in
    rw (mix_cause c.args.config.now fields (number_at 4 (codes "client" ∷ fields)) is) c.mix_in.ensures

pub flood_in-requires : goal.flood_in-requires
flood_in-requires c = sym c.second-kind.ensures ∙ (bytes_eq-Decides c.second-kind.result.now (codes "flood")).0 (rw c.as_slice-3.ensures at (sym c.if-eq-3.ensures))

pub returns-then-eq-3 : goal.returns-then-eq-3
returns-then-eq-3 c =
    let fields = texts c.args.fields.now in
    let is : field_at 1 fields ≡ codes "flood" = sym c.second-kind.ensures ∙ (bytes_eq-Decides c.second-kind.result.now (codes "flood")).0 (rw c.as_slice-3.ensures at (sym c.if-eq-3.ensures)) in
    rw (flood_cause c.args.config.now fields (number_at 4 (codes "client" ∷ fields)) is) c.flood_in.ensures
