-- Lines lead on from where lines lead to.
use Rattle.std.proofs.Common.{◌≡◌, ℕ, ◌<◌, ◌≤◌, Bool, false, length, arith, List, [], ◌∷◌, ◌++◌, sym, ap, subst, ◌∙◌}
use Rattle.std.specs.Prelude.{Result, Ok, Err, OnOk, OnErr, slice_index_or}
use Rattle.std.specs.declared.option.Option.TheVariants.{None}
use Rattle.quorum_rules.specs.Limits.{Numbers, IsValid}
use Rattle.wire_forms.specs.Liars.{Liars, has_number, AreLiars}
use Rattle.protocol.specs.Count.{count}
use Rattle.protocol.proofs.lemmas.Counting.{count_named}
use Rattle.protocol.specs.Setting.{Setting}
use Rattle.protocol.specs.World.{World, start_world}
use Rattle.protocol.specs.Lines.{Line, IsRun, FitsLine, fault, plays}
use Rattle.protocol.specs.Instance.{setting_of}
use Rattle.protocol.specs.Seen.{SeenWorld}
use Rattle.protocol.proofs.lemmas.Kept.{run_parts}
use Rattle.world_state.specs.Worlds.{WorldView, setting_in, world_in}
use Rattle.world_steps.specs.Reached.{IsReached}
use Rattle.world_steps.specs.Steps.{IsPlayedBy}

-- a run goes on by a line
one_more_line : (s : Setting) (lines : List (ℕ × Line)) (w : World) (place : ℕ) (line : Line) → IsRun s lines w → w.place < place → FitsLine s line → fault s w line ≡ None
    → (last : World) → last ≡ plays s w place line → IsRun s (lines ++ (place, line) ∷ []) last
one_more_line s lines w place line run later fits fine last e =
    (run_parts s last ((place, line) ∷ []) lines (start_world s)).1 (w, run, (later, fits, fine, e))

same_cluster : (c d : Numbers) (xs ys ks ls : List Bool) → d ≡ c → ys ≡ xs → ls ≡ ks → (seen : SeenWorld)
    → ◌≡◌ {A = WorldView} (record { config = d; lying_nodes = ys; lying_clients = ls; seen = seen }) (record { config = c; lying_nodes = xs; lying_clients = ks; seen = seen })
same_cluster c d xs ys ks ls e f g seen i = record { config = e i; lying_nodes = f i; lying_clients = g i; seen = seen }

-- the same cluster with another world
abbrev at : WorldView → SeenWorld → WorldView
at v seen = record { config = v.config; lying_nodes = v.lying_nodes; lying_clients = v.lying_clients; seen = seen }

-- a line leads on
pub leads_on : (old new : WorldView) (place : ℕ) (line : Line) → IsReached old → old.seen.place < place → FitsLine (setting_in old) line
    → fault (setting_in old) (world_in old) line ≡ None → IsPlayedBy old new place line → IsReached new
leads_on old new place line reached later fits fine h =
    let same : new ≡ at old new.seen = same_cluster old.config new.config old.lying_nodes new.lying_nodes old.lying_clients new.lying_clients h.config h.lying_nodes h.lying_clients new.seen in
    subst IsReached (sym same) (record {
      cluster = reached.cluster;
      lines = reached.lines ++ (place, line) ∷ [];
      run = one_more_line (setting_in old) reached.lines (world_in old) place line reached.run later fits fine (world_in (at old new.seen)) (ap world_in (sym same) ∙ h.now);
    })

-- whether a line took place or was refused, lines still lead to the world
pub still_reached : {T E : Type 0} (r : Result T E) (old new : WorldView) (place : ℕ) (line : Line) → IsReached old → old.seen.place < place → FitsLine (setting_in old) line
    → OnOk r (fault (setting_in old) (world_in old) line ≡ None) → OnOk r (IsPlayedBy old new place line) → OnErr r (new ≡ old) → IsReached new
still_reached (Ok x) old new place line reached later fits fine h k = leads_on old new place line reached later fits fine h
still_reached (Err x) old new place line reached later fits fine h k = subst IsReached (sym k) reached

-- a world before anything took place
pub begins : (v : WorldView) (c : Numbers) (liars : Liars) → IsValid v.config → v.config ≡ c → AreLiars c liars
    → setting_in v ≡ setting_of c (has_number liars.nodes) (has_number liars.clients) → world_in v ≡ start_world (setting_in v) → IsReached v
begins v c liars valid same few lies start =
    let by : (λ i. slice_index_or v.lying_nodes i false) ≡ has_number liars.nodes = ap (λ (s : Setting). s.lying_node) lies in
    let named = count_named v.config.n liars.nodes in
    let most : length liars.nodes ≤ v.config.b = subst (λ z. length liars.nodes ≤ z.b) (sym same) few.few in
    record {
      cluster = record { config = valid; few = subst (λ (f : ℕ → Bool). count v.config.n f ≤ v.config.b) (sym by) (omega (arith, named, most)) };
      lines = [];
      run = start;
    }
