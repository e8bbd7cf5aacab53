-- What became of a world, in one step and in two.
use Rattle.std.proofs.Common.{◌≡◌, ℕ, false, refl, sym, ◌∙◌, subst}
use Rattle.std.specs.Prelude.{slice_index_or}
use Rattle.protocol.specs.World.{World}
use Rattle.protocol.specs.Instance.{setting_of}
use Rattle.world_state.specs.Worlds.{WorldView, setting_in, world_in, with_seen}
use Rattle.world_state.specs.Changes.{HasBecome}

-- it became this world too
pub became_this : (old new : WorldView) (w x : World) → HasBecome old new w → w ≡ x → HasBecome old new x
became_this old new w x h e = record {
  now = h.now ∙ e;
  config = h.config;
  lying_nodes = h.lying_nodes;
  lying_clients = h.lying_clients;
}

-- what it became, became this
pub became_then : (old between new : WorldView) (w x y : World) → HasBecome old between w → HasBecome between new x → x ≡ y → HasBecome old new y
became_then old between new w x y g h e = record {
  now = h.now ∙ e;
  config = h.config ∙ g.config;
  lying_nodes = h.lying_nodes ∙ g.lying_nodes;
  lying_clients = h.lying_clients ∙ g.lying_clients;
}

-- the same of a world that is this one
pub known_as : (u v new : WorldView) → u ≡ v → (f : WorldView → World) → HasBecome u new (f u) → HasBecome v new (f v)
known_as u v new e f h = subst (λ x. HasBecome x new (f x)) e h

-- nothing but the place changed
pub became_passed : (old new : WorldView) (place : ℕ) → new ≡ with_seen old (record old.seen { place = place }) → HasBecome old new (record (world_in old) { place = place })
became_passed old new place e = subst (λ x. HasBecome old x (record (world_in old) { place = place })) (sym e) (record { now = refl; config = refl; lying_nodes = refl; lying_clients = refl })

-- who lies stays
pub same_setting : (old new : WorldView) (w : World) → HasBecome old new w → setting_in new ≡ setting_in old
same_setting old new w h i = setting_of (h.config i) (λ j. slice_index_or (h.lying_nodes i) j false) (λ c. slice_index_or (h.lying_clients i) c false)
