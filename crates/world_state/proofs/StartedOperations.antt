-- A client starts an operation: its slot, its record and its messages.
use Rattle.std.proofs.Common.{◌≡◌, ℕ, ◌+◌, ◌<◌, Bool, false, cond, eqb, List, [], ◌∷◌, ◌++◌, length, map, get_or, refl, sym, ◌∙◌, ap, subst, arith}
use Rattle.std.specs.Prelude.{slice_get, slice_set}
use Rattle.std.specs.declared.option.Option.TheVariants.{None, Some}
use Rattle.std.specs.Vec.{with_item}
use Rattle.std.proofs.lemmas.List.{map-append, length-map}
use Rattle.run_words.specs.declared.record.Record.{Record as Told}
use Rattle.wire_forms.specs.declared.op.Op.{Op}
use Rattle.wire_forms.specs.declared.op.Op.TheVariants.{Read, Write}
use Rattle.protocol.specs.Count.{update}
use Rattle.protocol.specs.Messages.{Message}
use Rattle.protocol.specs.Instance.{setting}
use Rattle.protocol.specs.Operations.{Task, first_work, begun, mail}
use Rattle.protocol.specs.World.{greatest_given, Record, open_record, chosen_stamp, last_op, started_by}
use Rattle.protocol.specs.Seen.{SeenTask, task_at, started_task, record_of, ops_of, block_of, work_of}
use Rattle.protocol.proofs.lemmas.Seeing.{begun-seen, length-begun}
use Rattle.operation_core.specs.Clients.{ClientView, started, with_started}
use Rattle.client_core.specs.Clients.{mail_of}
use Rattle.world_state.specs.declared.block_use.BlockUse.{BlockUse}
use Rattle.world_state.specs.declared.client_slot.ClientSlot.{ClientSlot}
use Rattle.world_state.specs.declared.state.State.TheInside.{Inside}
use Rattle.world_state.specs.contracts.state.State.{the_view}
use Rattle.world_state.specs.Worlds.{WorldView, setting_in, world_in}
use Rattle.world_state.specs.Slots.{IsWorld, IsTaskOf}
use Rattle.world_state.specs.BlockUses.{works_at, AreUses}
use Rattle.world_state.specs.Changes.{HasBecome, client_in}
use Rattle.world_state.proofs.KeptWorlds.{added}
use Rattle.world_state.proofs.ClientSlots.{update-known, world-client_slot, slot-lying, slot-crashed}
use Rattle.world_state.proofs.GreatestGiven.{greatest-more}
use Rattle.world_state.proofs.BlockUses.{works_on_task, idle_works_nowhere, use-there, uses-set}
use Rattle.lists.proofs.lemmas.Members.{slice_get-pushed}
use Rattle.lists.proofs.lemmas.Tests.{eqb_self}
use Rattle.std.proofs.lemmas.Bool.{ne_eqb}

-- no stamp is chosen at the beginning
no_stamp : (op : Op) → chosen_stamp (work_of op) (first_work (work_of op)) ≡ None
no_stamp (Read block) = refl
no_stamp (Write block value) = refl

-- the operation of a start, in the world
abbrev pub new_task : WorldView → ℕ → Op → ℕ → Task
new_task v k op place = begun (last_op (world_in v) k + 1) (block_of op) (work_of op) place

module _ (w : Inside) (k : ℕ) (inside : k < length w.client_slots.items) (slot : ClientSlot) (there : slot ≡ get_or w.client_slots.items k slot) (good : IsWorld w.config w.node_slots.items w.client_slots.items w.records w.place) (op : Op) (place : ℕ) (later : w.place < place) (next : ClientView)
    (is : next ≡ with_started (client_in (the_view w) k) (started (client_in (the_view w) k) op)) (records : List Told) (are : records ≡ w.records ++ record { client = k; op = op; start = place; end = None; stamp = None; outcome = None } ∷ []) where
  abbrev task : SeenTask
  task = started (client_in (the_view w) k) op

  abbrev new_slot : ClientSlot
  new_slot = record slot { client = next; start = place; index = length w.records }

  abbrev new_told : Told
  new_told = record { client = k; op = op; start = place; end = None; stamp = None; outcome = None }

  told_open : record_of new_told ≡ open_record k (task_at place (started (client_in (the_view w) k) op))
  told_open i = record { client = k; block = block_of op; work = work_of op; start = place; end = None; stamp = sym (no_stamp op) i; outcome = None }

  pub begun-kept : IsWorld w.config w.node_slots.items (slice_set w.client_slots.items k new_slot) records place
  begun-kept =
      subst (λ (rs : List Told). IsWorld w.config w.node_slots.items (slice_set w.client_slots.items k new_slot) rs place) (sym are)
      (added w.config w.node_slots.items w.client_slots.items w.records w.place good k new_slot place new_told later refl
      (record {
        config = ap (λ (x : ClientView). x.config) is;
        id = ap (λ (x : ClientView). x.id) is;
        task = subst (IsTaskOf w.config (map record_of (w.records ++ new_told ∷ [])) place k place (length w.records)) (sym (ap (λ (x : ClientView). x.seen.task) is))
            (record {
              answers = length-begun (setting w.config) (ops_of (client_in (the_view w) k).seen + 1) (block_of op) (work_of op);
              phases = (let l = later in omega (arith, l));
              told = rw map-append
                  (let e = slice_get-pushed (map record_of w.records) (record_of new_told) in
                  let n : length (map record_of w.records) ≡ length w.records = length-map w.records record_of in
                  ap (slice_get (map record_of w.records ++ record_of new_told ∷ [])) (sym n) ∙ e ∙ ap Some told_open);
            });
      }))

  begun-world : (pool mail_sent : List Message) → pool ≡ w.pool ++ mail_sent → mail_sent ≡ mail_of (client_in (the_view w) k) (started (client_in (the_view w) k) op)
      → world_in (the_view (record w { pool = pool; client_slots = with_item w.client_slots k new_slot; records = records; place = place }))
      ≡ started_by (setting_in (the_view w)) (world_in (the_view w)) place k (new_task (the_view w) k op place)
  begun-world pool mail_sent e f =
      world-client_slot w k inside new_slot pool records place
      ∙ (λ i. record (world_in (the_view w)) {
        pool = (e ∙ ap (λ (x : List Message). w.pool ++ x) (f ∙ ap (mail (setting w.config) k) same_task)) i;
        task = update (world_in (the_view w)).task k ((ap (λ (x : ClientView). started_task place x.seen.task) is ∙ ap Some same_task) i);
        life = update-known (world_in (the_view w)).life k next.seen.life (ap (λ (x : ClientView). x.seen.life) is) i;
        started = update (world_in (the_view w)).started k (ap (λ (x : ClientView). x.seen.started) is i);
        client_crashed = update-known (world_in (the_view w)).client_crashed k slot.crashed (sym (slot-crashed w k inside slot there)) i;
        records = (ap (map record_of) are ∙ map-append record_of w.records (new_told ∷ []) ∙ ap (λ (r : Record). map record_of w.records ++ r ∷ []) (told_open ∙ ap (open_record k) same_task)) i;
        place = place;
      })
    where
      same_task : task_at place (started (client_in (the_view w) k) op) ≡ new_task (the_view w) k op place
      same_task = begun-seen place (setting w.config) (ops_of (client_in (the_view w) k).seen + 1) (block_of op) (work_of op)

  pub begun-became : (pool mail_sent : List Message) → pool ≡ w.pool ++ mail_sent → mail_sent ≡ mail_of (client_in (the_view w) k) (started (client_in (the_view w) k) op)
      → HasBecome (the_view w) (the_view (record w { pool = pool; client_slots = with_item w.client_slots k new_slot; records = records; place = place }))
      (started_by (setting_in (the_view w)) (world_in (the_view w)) place k (new_task (the_view w) k op place))
  begun-became pool mail_sent e f = record {
    now = begun-world pool mail_sent e f;
    config = refl;
    lying_nodes = refl;
    lying_clients = slot-lying w k inside new_slot slot there refl;
  }

  -- one client more works on the block
  pub begun-uses : AreUses w.config w.client_slots.items w.records w.uses.items → slot.client.seen.task ≡ None → slot.crashed ≡ false → (u : BlockUse) → block_of op < length w.uses.items → u ≡ get_or w.uses.items (block_of op) u
      → AreUses w.config (slice_set w.client_slots.items k new_slot) records (slice_set w.uses.items (block_of op) (record u { at_work = u.at_work + 1 }))
  begun-uses uses idle awake u l e =
      subst (λ (rs : List Told). AreUses w.config (slice_set w.client_slots.items k new_slot) rs (slice_set w.uses.items (block_of op) (record u { at_work = u.at_work + 1 }))) (sym are)
      (uses-set w.config w.client_slots.items w.records w.uses.items uses k inside slot new_slot there (w.records ++ new_told ∷ []) (block_of op) u (record u { at_work = u.at_work + 1 }) l e
      (let f = ap {B = ℕ} (λ (b : Bool). cond b 1 0) (nowhere (block_of op)) in let g = ap {B = ℕ} (λ (b : Bool). cond b 1 0) (at_block (block_of op) ∙ eqb_self (block_of op)) in omega (arith, f, g))
      (ap (λ (x : BlockUse). x.given) (use-there w.config w.client_slots.items w.records w.uses.items uses (block_of op) u l e) ∙ sym (gives (block_of op)))
      (λ block other. at_block block ∙ ne_eqb (block_of op) block (λ same. other (sym same)) ∙ sym (nowhere block))
      (λ block other. gives block))
    where
      nowhere : (block : ℕ) → works_at block slot ≡ false
      nowhere block = idle_works_nowhere block slot idle

      at_block : (block : ℕ) → works_at block new_slot ≡ eqb (block_of op) block
      at_block block = works_on_task block new_slot task awake (ap (λ (x : ClientView). x.seen.task) is)

      gives : (block : ℕ) → greatest_given block (map record_of (w.records ++ new_told ∷ [])) ≡ greatest_given block (map record_of w.records)
      gives block = greatest-more block w.records new_told refl
