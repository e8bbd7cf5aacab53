-- A node that goes on on another disk, or is taken out.
use Rattle.std.proofs.Common.{◌≡◌, inl, inr, ℕ, true, false, not, List, Option, Some, None, refl, sym, ◌∙◌, ap, subst}
use Rattle.std.proofs.lemmas.List.{set-set}
use Rattle.quorum_rules.specs.Limits.{Numbers}
use Rattle.disk_model.specs.Crash.{settled}
use Rattle.file_disk.specs.OnFile.{OnFile}
use Rattle.version_disk.specs.Compacted.{IsJournalOf}
use Rattle.version_disk.specs.Held.{held}
use Rattle.version_disk.specs.Stored.{Stored}
use Rattle.store_device.specs.Stores.{SeenStore, seat_at, is_up}
use Rattle.store_device.specs.Seating.{with_seat}
use Rattle.store_device.proofs.lemmas.Steps.{one_seat}
use Rattle.pasis_store.specs.Upkeep.{Holds, IsReseated}

module _ {F : Type 0} where
  -- the disk to which the journal of a node that is up was written has it
  pub holds : (c : Numbers) (number : ℕ) (disk : OnFile F) (seat : Option (Stored (OnFile F))) (node : Stored (OnFile F)) → seat ≡ Some node → node.broken ≡ false
      → (is_up seat ≡ true → node.node.config ≡ c) → (is_up seat ≡ true → node.node.number ≡ number) → IsJournalOf node.node disk.bytes disk.most → Holds c number disk seat
  holds c number disk seat node there up config numbered journal =
      let is : is_up seat ≡ true = ap is_up there ∙ ap not up in
      record { node = node; there = there; up = up; config = config is; numbered = numbered is; journal = journal }

  -- and so has one with the same bytes and the same room
  pub same_journal : (was : Stored (OnFile F)) (old new : OnFile F) → new.bytes ≡ old.bytes → new.most ≡ old.most
      → IsJournalOf was.node old.bytes old.most → IsJournalOf was.node new.bytes new.most
  same_journal was old new bytes most has =
      subst (λ (b : List ℕ). IsJournalOf was.node b new.most) (sym bytes) (subst (IsJournalOf was.node old.bytes) (sym most) has)

  -- the node that sat there goes on on that disk, once it was put in its journal's place
  pub goes_on : (old mid new : SeenStore (OnFile F)) (seat : ℕ) (disk put : OnFile F) (was is : Stored (OnFile F))
      → Holds old.config seat disk (seat_at old seat) → Some was ≡ seat_at old seat
      → mid ≡ with_seat old seat None → new ≡ with_seat mid seat (Some is)
      → put.bytes ≡ disk.bytes → put.pending ≡ settled disk.bytes
      → is.node ≡ was.node → is.broken ≡ false → is.disk ≡ put → IsReseated old new
  goes_on old mid new seat disk put was is h taken gone seated bytes durable same whole on =
      let there : Some was ≡ Some h.node = taken ∙ h.there in
      let node : was ≡ h.node = cc in
      let e : is.node ≡ h.node.node = same ∙ ap (λ (t : Stored (OnFile F)). t.node) node in
      let b : is.disk.bytes ≡ disk.bytes = ap (λ (d : OnFile F). d.bytes) on ∙ bytes in
      let here : new ≡ with_seat old seat (Some is) =
      seated ∙ ap (λ (s : SeenStore (OnFile F)). with_seat s seat (Some is)) gone
      ∙ ap (λ (seats : List (Option (Stored (OnFile F)))). record old { seats = seats }) (set-set old.seats seat None (Some is)) in
      let config : is.node.config ≡ old.config = ap (λ n. n.config) e ∙ h.config in
      let numbered : is.node.number ≡ seat = ap (λ n. n.number) e ∙ h.numbered in
      let state : held old.config seat is.disk.bytes ≡ is.node =
      ap (λ (c : Numbers). held c seat is.disk.bytes) (sym h.config) ∙ ap (λ (n : ℕ). held h.node.node.config n is.disk.bytes) (sym h.numbered)
      ∙ ap (held h.node.node.config h.node.node.number) b ∙ h.journal.state ∙ sym e in
      one_seat _ _ old new seat (Some is) here (inr (inl (
        h.node,
        is,
        h.there,
        refl,
        record {
          up = h.up;
          whole = whole;
          same = e;
          sound = record {
            config = config;
            numbered = numbered;
            durable = ap (λ (d : OnFile F). d.pending) on ∙ durable ∙ ap settled (sym b);
            state = state;
          };
        },
      )))

  -- nobody sits there any more
  pub taken_out : (old new : SeenStore (OnFile F)) (seat : ℕ) → new ≡ with_seat old seat None → IsReseated old new
  taken_out old new seat is = one_seat _ _ old new seat None is (inr (inr refl))
