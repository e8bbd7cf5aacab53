use Rattle.std.proofs.Common.{◌≡◌, ◌⊎◌, inl, inr, ℕ, ◌+◌, ◌≤◌, ◌==◌, Bool, false, List, length, sym, ◌∙◌, ap, subst, arith, IsTrue, eqb-true}
use Rattle.std.specs.Prelude.{Result, IfOk}
use Rattle.std.specs.declared.result.Result.TheVariants.{Ok, Err}
use Rattle.sqlite_disk.specs.Disk.{Holds, MoreFaults}
use Rattle.sqlite_disk.specs.Digest.{digest}
use Rattle.slab_layout.specs.Shapes.{part, head_at, data_at, data_len, slab_len}
use Rattle.slab_layout.specs.Heads.{head_in, head_bytes}
use Rattle.slab_layout.specs.declared.head.Head.{Head}
use Rattle.slab_reading.specs.Opened.{SlotFits, IsNoHead, SlotDataFit}
use Rattle.slab_reading.proofs.Pieces.{part_read, data_were_read}
use Rattle.slab_reading.proofs.lemmas.ReadCalls.{reads_both}
use Rattle.slab_reading.proofs.checking.check_slot.Goals as goal

if_ok_both : {E : Type 0} (r : Result Bool E) (P Q R : Bool → Type 0) → ((b : Bool) → P b → Q b → R b) → IfOk r P → IfOk r Q → IfOk r R
if_ok_both (Ok b) P Q R so p q = so b p q
if_ok_both (Err e) P Q R so p q = tt

pub returns-in_default-clause-damaged : goal.returns-in_default-clause-damaged
returns-in_default-clause-damaged g c missed clean =
    let F = g.F.SlabFile in
    let s = c.args.shape in
    let base = F.seen c.args.file.now in
    let head_read : part base (head_at s c.args.slot) 72 ≡ c.deref.result.now =
    ap (λ (n : ℕ). part base n 72) (sym c.head_at.ensures.place)
    ∙ part_read base c.head_at.result 72 c.in_ok-bytes.bytes.items (sym c.in_ok-bytes.ensures.len) (c.in_ok-bytes.ensures.read clean (omega arith)) ∙ sym c.deref.ensures.value in
    inl (record { none = λ h place same. c.in_default.ensures.none h place (sym head_read ∙ same) })

pub returns-clause-fits : goal.returns-clause-fits
returns-clause-fits g c =
    let F = g.F.SlabFile in
    let s = c.args.shape in
    let base = F.seen c.args.file.now in
    let mid = c.read_piece.new.file in
    let room : List ℕ = c.read_data.new.room in
    let check : ℕ = c.in-Some.head.data_check in
    if_ok_both c.read_data.result (λ fits. fits ≡ (digest c.args.key room == check)) (λ fits. IsTrue fits → IsTrue (F.is_clean c.read_data.new.file) → Holds (F.seen mid) c.data_at.result room)
    (λ fits. IsTrue fits → IsTrue (F.is_clean c.read_data.new.file) → SlotFits s c.args.key base c.args.slot)
    (λ fits is holds yes clean.
    let mid_clean : IsTrue (F.is_clean mid) = c.read_data.ensures.reads.clean clean in
    let head_read : part base (head_at s c.args.slot) 72 ≡ c.deref.result.now =
    ap (λ (n : ℕ). part base n 72) (sym c.head_at.ensures.place)
    ∙ part_read base c.head_at.result 72 c.in_ok-bytes.bytes.items (sym c.in_ok-bytes.ensures.len) (c.in_ok-bytes.ensures.read mid_clean (omega arith)) ∙ sym c.deref.ensures.value in
    let its_head = ap head_in head_read ∙ sym c.in-Some.ensures.is in
    let long : length room ≡ data_len s = omega (arith, c.read_data.auto.room, c.deref_mut.ensures.value, c.in_ok-room.ensures.len, c.data_len.ensures) in
    let there : Holds base c.data_at.result room = subst (λ (l : List ℕ). Holds l c.data_at.result room) c.read_piece.ensures.reads.bytes (holds yes clean) in
    let data_read : part base (data_at s c.args.slot) (data_len s) ≡ room = data_were_read s base c.args.slot c.data_at.result room c.data_at.ensures.place long there in
    let same : digest c.args.key room ≡ check = eqb-true _ _ (sym is ∙ yes) in
    record {
      head = record { written = head_read ∙ c.in-Some.ensures.some ∙ ap (head_bytes c.args.key) (sym its_head) };
      body = ap (λ (h : Head). h.data_check) its_head ∙ sym same ∙ ap (digest c.args.key) (sym data_read);
    })
    c.read_data.ensures.fits c.read_data.ensures.read

pub returns-clause-damaged : goal.returns-clause-damaged
returns-clause-damaged g c =
    let F = g.F.SlabFile in
    let s = c.args.shape in
    let base = F.seen c.args.file.now in
    let mid = c.read_piece.new.file in
    let new = c.read_data.new.file in
    let room : List ℕ = c.deref_mut.result.now in
    let check : ℕ = c.in-Some.head.data_check in
    let Lost : Bool → Type 0 = λ fits. fits ≡ false → IsTrue (F.is_clean mid) → c.data_at.result + length room ≤ length (F.seen mid)
    → check ≡ digest c.args.key (part (F.seen mid) c.data_at.result (length room)) → MoreFaults (F.faults mid) (F.faults new) in
    if_ok_both c.read_data.result Lost Lost
    (λ fits. fits ≡ false → IsTrue (F.is_clean new) → IsNoHead s c.args.key base c.args.slot ⊎ (slab_len s ≤ length base → SlotDataFit s c.args.key base c.args.slot → MoreFaults (F.faults c.args.file.now) (F.faults new)))
    (λ fits lost also missed clean.
    let mid_clean : IsTrue (F.is_clean mid) = c.read_data.ensures.reads.clean clean in
    let head_read : part base (head_at s c.args.slot) 72 ≡ c.deref.result.now =
    ap (λ (n : ℕ). part base n 72) (sym c.head_at.ensures.place)
    ∙ part_read base c.head_at.result 72 c.in_ok-bytes.bytes.items (sym c.in_ok-bytes.ensures.len) (c.in_ok-bytes.ensures.read mid_clean (omega arith)) ∙ sym c.deref.ensures.value in
    let its_head = ap head_in head_read ∙ sym c.in-Some.ensures.is in
    let bytes : F.seen mid ≡ base = c.read_piece.ensures.reads.bytes in
    let long : length room ≡ data_len s = omega (arith, c.deref_mut.ensures.value, c.in_ok-room.ensures.len, c.data_len.ensures) in
    let place : c.data_at.result ≡ data_at s c.args.slot = c.data_at.ensures.place in
    inr (λ within fit.
    let same : check ≡ digest c.args.key (part (F.seen mid) c.data_at.result (length room)) =
    ap (λ (h : Head). h.data_check) (sym its_head) ∙ fit ∙ (λ i. digest c.args.key (part (sym bytes i) (sym place i) (sym long i))) in
    let there : c.data_at.result + length room ≤ length (F.seen mid) = omega (arith, c.data_at.ensures.within, long, within, ap length bytes) in
    subst (λ (n : ℕ). MoreFaults n (F.faults new)) c.in_ok-bytes.ensures.calm (lost missed mid_clean there same)))
    c.read_data.ensures.lost c.read_data.ensures.lost

pub returns-clause-reads : goal.returns-clause-reads
returns-clause-reads g c =
    let F = g.F.SlabFile in
    reads_both F.seen F.may_leave F.moment F.left_since F.is_usable F.is_clean c.args.file.now c.read_piece.new.file c.read_data.new.file c.read_piece.ensures.reads c.read_data.ensures.reads
