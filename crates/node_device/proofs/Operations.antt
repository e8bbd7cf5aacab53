-- What a read and a write do, phase by phase.
use Rattle.std.proofs.Common.{◌≡◌, ℕ, ◌+◌, ◌-◌, ◌^◌, ◌<◌, ◌≤◌, List, length, map, refl, ◌∙◌, ap, subst, ◌⊎◌, inl, inr, arith}
use Rattle.std.specs.declared.option.Option.TheVariants.{None, Some}
use Rattle.std.specs.List.{slice_set}
use Rattle.stamp_order.specs.declared.Stamp.{Stamp}
use Rattle.stamp_order.specs.declared.Bound.TheVariants.{All as Every}
use Rattle.quorum_rules.specs.Limits.{Numbers, wait_of}
use Rattle.run_words.specs.declared.outcome.How.TheVariants.{Plain}
use Rattle.run_words.specs.declared.outcome.Outcome.TheVariants.{Wrote, Gave}
use Rattle.wire_forms.specs.declared.op.Op.TheVariants.{Read as ReadOp, Write as WriteOp}
use Rattle.protocol.specs.Setting.{Setting, IsBlock, verifier_of}
use Rattle.protocol.specs.Instance.{setting}
use Rattle.protocol.specs.Operations.{mail}
use Rattle.protocol.specs.Operations.Stage.{Storing}
use Rattle.protocol.specs.Views.{task_after}
use Rattle.protocol.specs.Seen.{SeenTask, task_at, seen_goes_on}
use Rattle.protocol.specs.Seen.Hearing.{Begins, Ended}
use Rattle.wire_forms.specs.declared.Request.TheVariants.{Read}
use Rattle.wire_forms.specs.declared.Reply.TheVariants.{Found}
use Rattle.std.specs.List.{slice_index_or}
use Rattle.std.proofs.lemmas.List.{get_or_default}
use Rattle.node_core.specs.Seen.{SeenNode, reply_of}
use Rattle.operation_core.specs.Clients.{ClientView, started, with_started, with_task}
use Rattle.client_core.specs.Clients.{mail_of}
use Rattle.client_core.specs.declared.heard.Heard.{Heard}
use Rattle.client_core.specs.declared.heard.Heard.TheVariants.{Send, Ended as EndedWith}
use Rattle.node_device.specs.Held.{Held, the_client, node_at, held_at, held_of, stamp_of, version_of, rewritten, IsHeld}
use Rattle.node_device.specs.Phases.{asked, heard_of, phase_end, IsAsking, HasAsked}
use Rattle.node_device.specs.Devices.{IsReady, HasDone, pruned_at}
use Rattle.node_device.proofs.Deciding.{times_end, storing_ends, versions_end}
use Rattle.node_device.proofs.lemmas.Holding.{wait_bounds, held_is, same_held, version_told, times_answers, versions_answers, times_leave, versions_leave, pruned_held, storing_answers, written_held}

module _ (nodes : List SeenNode) (client : ClientView) (ready : IsReady client.config nodes client) (block : ℕ) (there : block < client.config.blocks) where
  abbrev pub c : Numbers
  c = client.config

  abbrev pub s : Setting
  s = setting c

  abbrev pub held : List Held
  held = held_of c nodes

  abbrev pub h : Held
  h = held_at c held block

  -- nodes that hold other blocks, and a client that is idle
  done : (after : ClientView) (t : SeenTask) (new : List SeenNode) (next : List Held) → after ≡ with_task (with_started client t) None → IsHeld c new next → HasDone client after new next
  done after t new next e is =
      let same = held_is c ready.valid new next is in
      rw e (record {
        ready = record { valid = ready.valid; config = refl; id = ready.id; idle = refl; held = rw same is };
        holds = same;
        life = refl;
        started = refl;
      })

  -- a read
  abbrev pub reading : SeenTask
  reading = started client (ReadOp block)

  pub read_asks : IsAsking nodes (with_started client reading) reading (mail_of client reading)
  read_asks = record {
    task = refl;
    asks = refl;
    none = refl;
    phase = omega arith;
    count = ready.held.nodes_count;
    waits = wait_bounds c ready.valid;
    kinds = λ i l. rw (versions_answers c ready.valid nodes held ready.held block there reading refl refl i l) refl;
  }

  module _ (new : List SeenNode) (after : ClientView) (heard : Heard) (has : HasAsked nodes new (with_started client reading) after reading heard) where
    read_end : phase_end c client.id (asked c nodes reading (wait_of c)) ≡ Ended (Gave (stamp_of c h) h.value Plain 1)
    read_end = versions_end c ready.valid nodes reading h client.id refl (ready.held.blocks block there) (ready.held.unwritten block there) (versions_answers c ready.valid nodes held ready.held block there reading refl refl)

    pub read_gives : heard ≡ EndedWith (Gave (stamp_of c h) h.value Plain 1)
    read_gives = has.told ∙ ap (λ x. heard_of c client.id x) read_end

    pub read_done : HasDone client after (map (pruned_at block (stamp_of c h)) new) held
    read_done =
        let leaves = versions_leave c ready.valid nodes held ready.held block there reading refl new has.answered refl in
        done after reading _ held (has.goes ∙ ap (λ x. with_task (with_started client reading) (task_after reading x)) read_end)
        (pruned_held c ready.valid nodes held ready.held block there new has.answered.count leaves)

    pub read_there : (k : ℕ) (d : SeenNode) → k < length new → block < (slice_index_or new k d).config.blocks
    read_there k d l =
        let inside : k < c.n = omega (arith, l, has.answered.count, ready.held.nodes_count) in
        let leaves = versions_leave c ready.valid nodes held ready.held block there reading refl new has.answered refl in
        let same : slice_index_or new k d ≡ node_at c nodes k = get_or_default new k d _ l ∙ leaves k in
        rw (same, (ready.held.own k inside).config) there

  -- a write
  module _ (value : List ℕ) (is_block : IsBlock s value) (last : h.time < 2 ^ 64 - 1) where
    abbrev pub writing : SeenTask
    writing = started client (WriteOp block value)

    abbrev pub stamp : Stamp
    stamp = record { time = h.time + 1; client = the_client; verifier = verifier_of s value }

    abbrev pub storing : SeenTask
    storing = seen_goes_on s (asked c nodes writing (wait_of c)) (Storing stamp value)

    pub write_asks : IsAsking nodes (with_started client writing) writing (mail_of client writing)
    write_asks = record {
      task = refl;
      asks = refl;
      none = refl;
      phase = omega arith;
      count = ready.held.nodes_count;
      waits = wait_bounds c ready.valid;
      kinds = λ i l. rw (times_answers c ready.valid nodes held ready.held block there writing refl refl i l) refl;
    }

    module _ (new : List SeenNode) (after : ClientView) (heard : Heard) (has : HasAsked nodes new (with_started client writing) after writing heard) where
      times : phase_end c client.id (asked c nodes writing (wait_of c)) ≡ Begins storing
      times =
          times_end c ready.valid nodes writing value h.time client.id refl refl (times_answers c ready.valid nodes held ready.held block there writing refl refl) last
          ∙ ap (λ id. Begins (seen_goes_on s (asked c nodes writing (wait_of c)) (Storing (record { time = h.time + 1; client = id; verifier = verifier_of s value }) value))) ready.id

      pub write_sends : heard ≡ Send (mail s client.id (task_at 0 storing))
      write_sends = has.told ∙ ap (λ x. heard_of c client.id x) times

      pub write_goes : after ≡ with_task (with_started client writing) (Some storing)
      write_goes = has.goes ∙ ap (λ x. with_task (with_started client writing) (task_after writing x)) times

      leaves : (i : ℕ) → node_at c new i ≡ node_at c nodes i
      leaves = times_leave c ready.valid nodes held ready.held block there writing refl new has.answered refl

      pub still_held : IsHeld c new held
      still_held = same_held c ready.valid nodes held ready.held block there new has.answered.count leaves

      pub store_asks : IsAsking new after storing (mail s client.id (task_at 0 storing))
      store_asks = rw write_goes (record {
        task = refl;
        asks = refl;
        none = refl;
        phase = omega arith;
        count = still_held.nodes_count;
        waits = wait_bounds c ready.valid;
        kinds = λ i l. rw (storing_answers c ready.valid new held still_held block there value is_block storing refl refl i l) refl;
      })

      module _ (newer : List SeenNode) (later : ClientView) (said : Heard) (stored : HasAsked new newer after later storing said) where
        stored_by : HasAsked new newer (with_task (with_started client writing) (Some storing)) later storing said
        stored_by = subst (λ x. HasAsked new newer x later storing said) write_goes stored

        store_end : phase_end c client.id (asked c new storing (wait_of c)) ≡ Ended (Wrote stamp)
        store_end = storing_ends c ready.valid new storing value value stamp client.id refl refl

        pub write_ends : said ≡ EndedWith (Wrote stamp)
        write_ends = stored_by.told ∙ ap (λ x. heard_of c client.id x) store_end

        pub write_there : (k : ℕ) (d : SeenNode) → k < length newer → block < (slice_index_or newer k d).config.blocks
        write_there k d l =
            let inside : k < c.n = omega (arith, l, stored_by.answered.count, still_held.nodes_count) in
            let either : (k < wait_of c) ⊎ (wait_of c ≤ k) = grind arith in
            let kept : (node_at c newer k).config ≡ (node_at c new k).config = elim either [ inl a ↦ ap (λ (x : SeenNode). x.config) (stored_by.answered.first k a) | inr b ↦ ap (λ (x : SeenNode). x.config) (stored_by.answered.rest k b) ] in
            at k d (get_or_default newer k d _ l) (kept ∙ (still_held.own k inside).config)
          where
            at : (k : ℕ) (d : SeenNode) → slice_index_or newer k d ≡ node_at c newer k → (node_at c newer k).config ≡ c → block < (slice_index_or newer k d).config.blocks
            at k d e f = rw (e, f) there

        pub write_done : HasDone client later (map (pruned_at block stamp) newer) (slice_set held block (rewritten h value))
        write_done =
            done later writing _ _ (stored_by.goes ∙ ap (λ x. with_task (with_started client writing) (task_after storing x)) store_end)
            (written_held c ready.valid new held still_held block there value is_block storing refl refl newer stored_by.answered)

-- what a node that is asked finds
pub held_found : (c : Numbers) (nodes : List SeenNode) (client : ClientView) → IsReady c nodes client → (i k : ℕ) → i < wait_of c → k < c.blocks → (node : SeenNode) → node ≡ slice_index_or nodes i node
    → reply_of node (record { block = k; request = Read Every }) ≡ Found (version_of c i (held_at c (held_of c nodes) k))
held_found c nodes client ready i k l there node e =
    let is : node ≡ node_at c nodes i = e ∙ get_or_default nodes i node _ (omega (arith, l, ready.held.nodes_count)) in
    rw is (version_told c ready.valid nodes (held_of c nodes) ready.held k there i l)
