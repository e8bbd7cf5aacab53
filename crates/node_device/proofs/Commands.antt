-- Puts and gets in the history of a run.
use Rattle.std.proofs.Common.{◌≡◌, ℕ, zero, suc, zero-mul, ◌+◌, ◌*◌, ◌%◌, ◌<◌, ◌≤◌, Bool, true, false, cond, List, [], ◌∷◌, map, length, Option, refl, sym, ap, ◌∙◌, inl, inr, arith}
use Rattle.std.specs.declared.option.Option.TheVariants.{None, Some}
use Rattle.std.specs.List.{Contains, concat, flat_map, slice_range}
use Rattle.std.proofs.lemmas.Bool.{ltb-false, eqb-false}
use Rattle.std.proofs.lemmas.List.{length-replicate}
use Rattle.quorum_rules.specs.Limits.{Numbers}
use Rattle.wire_forms.specs.declared.device.DeviceOp.{DeviceOp}
use Rattle.wire_forms.specs.declared.device.DeviceOp.TheVariants.{Get, Put}
use Rattle.line_forms.specs.declared.cause.DeviceFault.{DeviceFault}
use Rattle.block_device.specs.Ranges.{fault_of, touched, start_of, len_of}
use Rattle.block_device.specs.Steps.{steps_in, steps_of}
use Rattle.block_device.specs.Device.{Device, merged, after, reads, bytes_of, AreBlocks, IsWritten}
use Rattle.protocol.specs.Setting.{Setting, first_stamp}
use Rattle.protocol.specs.World.{World}
use Rattle.protocol.specs.Lines.{Line, IsRun}
use Rattle.protocol.specs.Instance.{setting_of, IsCluster, InEachRun}
use Rattle.protocol.specs.History.{Entry, IsEntry, IsHistory, NoClash}
use Rattle.protocol.specs.Facts.{IsTold}
use Rattle.protocol.specs.Laws.{HistoriesAreLegal, HistoriesAreInTime, ValuesAreBlocks, RecordsAreTold}
use Rattle.protocol.proofs.lemmas.Entries.{start_made, end_made}
use Rattle.node_device.specs.Moments.{values_at, array_of, IsQuiet}
use Rattle.node_device.specs.Commands.{IsDone}
use Rattle.node_device.specs.Laws.{GetsGiveTheirRange, GetsGiveWhatWasPut, array_at}
use Rattle.node_device.proofs.Values.{length_values}
use Rattle.node_device.proofs.Moments.{IsOrderly}
use Rattle.node_device.proofs.Following.{AreReads, own_late, steps_leave, reads_give}
use Rattle.node_device.proofs.Arrays.{same_array, length_array, range_of, block_of, written_array}
use Rattle.node_device.proofs.Getting.{same_range, merged_range, own_early, quiet_first, quiet_later, stays_between}
use Rattle.lists.proofs.lemmas.Members.{Contains-head, Contains-rest}

-- ---- what holds of each history
some_is : (x : Option ℕ) (a b : ℕ) → x ≡ Some a → x ≡ Some b → a ≡ b
some_is x a b p q = cc

pub told_in_order : (w : World) → ((r : _) → Contains w.records r → IsTold w r) → (first : _) (e : Entry) → IsEntry w.records first e → (start end : ℕ) → e.start ≡ Some start → e.end ≡ Some end → start ≤ end
told_in_order w told first e (inl read) start end begun ended =
    let low = ((told read.read read.there).end end (sym (end_made read.made) ∙ ended)).0 in
    omega (arith, low, some_is e.start start read.read.start begun (start_made read.made))
told_in_order w told first e (inr (inl write)) start end begun ended =
    let low = ((told write.write write.there).end end (sym (end_made write.made) ∙ ended)).0 in
    omega (arith, low, some_is e.start start write.write.start begun (start_made write.made))
told_in_order w told first e (inr (inr foreign)) start end begun ended = absurd (let none : e.start ≡ None = start_made foreign.1.made in cc)

-- ---- ranges within the device
not_first : (b : Bool) (x : DeviceFault) (other : Option DeviceFault) → cond b (Some x) other ≡ None → b ≡ false
not_first true x other h = absurd cc
not_first false x other h = refl

within : (c : Numbers) (op : DeviceOp) → fault_of c op ≡ None → start_of op + len_of op ≤ c.size * c.blocks
within c op h = ltb-false (c.size * c.blocks) (start_of op + len_of op) (not_first _ _ _ h)

not_second : (a b : Bool) (x y : DeviceFault) → cond a (Some x) (cond b (Some y) None) ≡ None → b ≡ false
not_second true b x y h = absurd cc
not_second false true x y h = absurd cc
not_second false false x y h = refl

-- a range that is served has a byte, so blocks have bytes
size_above : (c : Numbers) (op : DeviceOp) → fault_of c op ≡ None → 0 < c.size
size_above c op h = by c.size (within c op h)
  where
    by : (size : ℕ) → start_of op + len_of op ≤ size * c.blocks → 0 < size
    by zero fits = absurd (eqb-false (len_of op) 0 (not_second _ _ _ _ h) (let z : 0 * c.blocks ≡ 0 = zero-mul c.blocks in omega (arith, fits, z)))
    by (suc size) fits = omega arith

all_reads : (size start len : ℕ) (some : ℕ → Type 0) (ks : List ℕ) → ((k : ℕ) → Contains ks k → some k) → AreReads some (flat_map (steps_in size (Get start len)) ks)
all_reads size start len some [] h = tt
all_reads size start len some (k ∷ ks) h = (h k (Contains-head k ks), all_reads size start len some ks (λ j c. h j (Contains-rest j k ks c)))

module _ (legal : InEachRun HistoriesAreLegal) (in_time : InEachRun HistoriesAreInTime) (blocks : InEachRun ValuesAreBlocks) (told : InEachRun RecordsAreTold) where
  module _ (c : Numbers) (lying_node lying_client : ℕ → Bool) (cluster : IsCluster c lying_node) (lines : List (ℕ × Line)) (w : World) (run : IsRun (setting_of c lying_node lying_client) lines w)
      (h : List Entry) (history : IsHistory (setting_of c lying_node lying_client) w h) (no_clash : NoClash (setting_of c lying_node lying_client) w) where
    abbrev s : Setting
    s = setting_of c lying_node lying_client

    is_entry : (e : Entry) → Contains h e → IsEntry w.records (first_stamp s) e
    is_entry e there = (history.1 e).0 there

    orderly : IsOrderly s h
    orderly = record {
      legal = legal c lying_node lying_client cluster lines w run h no_clash history;
      in_time = in_time c lying_node lying_client cluster lines w run h no_clash history;
      told = λ e there. told_in_order w (told c lying_node lying_client cluster lines w run) (first_stamp s) e (is_entry e there);
    }

    are_blocks : (place : ℕ) → AreBlocks c.size c.blocks (values_at s h place)
    are_blocks place k below = length_values k h place _ c.size (length-replicate c.size 0) (λ e there. (blocks c lying_node lying_client cluster lines w run e (is_entry e there)).0)

    module _ (writes : (c : Numbers) (d : Device) (start : ℕ) (bytes : List ℕ) → AreBlocks c.size c.blocks d.held → fault_of c (Put start bytes) ≡ None → IsWritten c.size d.held (after (steps_of c (Put start bytes)) d).held start bytes)
        (keeps : (c : Numbers) (d : Device) (start : ℕ) (bytes : List ℕ) → AreBlocks c.size c.blocks d.held → fault_of c (Put start bytes) ≡ None → AreBlocks c.size c.blocks (after (steps_of c (Put start bytes)) d).held)
        (start : ℕ) (bytes : List ℕ) (own : List Entry) (from until : ℕ) (faultless : fault_of c (Put start bytes) ≡ None) (done : IsDone c h (Put start bytes) own from until) where
      abbrev d : Device
      d = record { held = values_at s h from; seen = done.seen }

      abbrev now : ℕ → List ℕ
      now = (after (steps_of c (Put start bytes)) d).held

      left : (k : ℕ) → IsQuiet h own from until k → values_at s h until k ≡ now k
      left k quiet = steps_leave s h orderly (steps_of c (Put start bytes)) own done.seen from until done.there done.steps k quiet d (record { held = refl; saw = refl })

      are_now : AreBlocks c.size c.blocks now
      are_now = keeps c d start bytes (are_blocks from) faultless

      as_array : array_of c.blocks now ≡ merged (array_at c s h from) start bytes
      as_array =
          let fits = within c (Put start bytes) faultless in
          written_array c.size c.blocks start bytes (values_at s h from) now (are_blocks from) are_now (omega (arith, fits)) (writes c d start bytes (are_blocks from) faultless)

      pub block_goes_in : (block : ℕ) → block < c.blocks → IsQuiet h own from until block → values_at s h until block ≡ slice_range (merged (array_at c s h from) start bytes) (block * c.size) ((block + 1) * c.size)
      block_goes_in block below quiet =
          left block quiet ∙ block_of c.size c.blocks now are_now block below ∙ ap (λ a. slice_range a (block * c.size) ((block + 1) * c.size)) as_array

      pub all_go_in : ((block : ℕ) → block < c.blocks → IsQuiet h own from until block) → array_at c s h until ≡ merged (array_at c s h from) start bytes
      all_go_in quiet = same_array c.blocks (values_at s h until) now (λ k below. left k (quiet k below)) ∙ as_array

    module _ (gives : (c : Numbers) (d : Device) (start len : ℕ) → AreBlocks c.size c.blocks d.held → fault_of c (Get start len) ≡ None → slice_range (concat (reads (steps_of c (Get start len)) d)) (start % c.size) (start % c.size + len) ≡ bytes_of c.size d.held start len) where
      pub get_gives : GetsGiveTheirRange c s h
      get_gives start len own from until faultless done quiet =
          let d : Device = record { held = values_at s h from; seen = done.seen } in
          let fits = within c (Get start len) faultless in
          let read : map (λ (e : Entry). e.value) own ≡ reads (steps_of c (Get start len)) d =
          reads_give s h orderly (steps_of c (Get start len)) own done.seen from until done.there done.steps (Contains (touched c (Get start len)))
          (all_reads c.size start len (Contains (touched c (Get start len))) (touched c (Get start len)) (λ k there. there)) quiet d (λ k there. record { held = refl; saw = refl }) in
          ap (λ values. slice_range (concat values) (start % c.size) (start % c.size + len)) read
          ∙ gives c d start len (are_blocks from) faultless
          ∙ range_of c.size c.blocks (values_at s h from) (are_blocks from) start len (omega (arith, fits))

      module _ (writes : (c : Numbers) (d : Device) (start : ℕ) (bytes : List ℕ) → AreBlocks c.size c.blocks d.held → fault_of c (Put start bytes) ≡ None → IsWritten c.size d.held (after (steps_of c (Put start bytes)) d).held start bytes)
          (keeps : (c : Numbers) (d : Device) (start : ℕ) (bytes : List ℕ) → AreBlocks c.size c.blocks d.held → fault_of c (Put start bytes) ≡ None → AreBlocks c.size c.blocks (after (steps_of c (Put start bytes)) d).held) where
        pub put_is_got : GetsGiveWhatWasPut c s h
        put_is_got start bytes own later from until again end faultless done got next quiet =
            let len = length bytes in
            let fits = within c (Put start bytes) faultless in
            let held = values_at s h from in
            let held_now = now writes keeps start bytes own from until faultless done in
            let first = (own_late s h orderly (steps_of c (Put start bytes)) own done.seen from until done.there done.steps).0 in
            let late = own_late s h orderly (steps_of c (Get start len)) later got.seen again end got.there got.steps in
            let early = own_early s h orderly (steps_of c (Put start bytes)) own done.seen from until done.there done.steps in
            let same : (k : ℕ) → Contains (touched c (Get start len)) k → values_at s h again k ≡ held_now k =
            λ k t. stays_between s h orderly own later from until again end first next late.0 early late.1 k (quiet k t)
            ∙ left writes keeps start bytes own from until faultless done k (quiet_first s h orderly own later from until again end first next late.0 early late.1 k (quiet k t)) in
            let sized : 0 < c.size = size_above c (Put start bytes) faultless in
            let size = length_array c.size c.blocks held (are_blocks from) in
            get_gives start len later again end faultless got (λ k t. quiet_later s h orderly own later from until again end first next late.0 early late.1 k (quiet k t))
            ∙ sym (range_of c.size c.blocks (values_at s h again) (are_blocks again) start len (omega (arith, fits)))
            ∙ same_range c (Get start len) (values_at s h again) held_now sized fits same
            ∙ range_of c.size c.blocks held_now (are_now writes keeps start bytes own from until faultless done) start len (omega (arith, fits))
            ∙ ap (λ a. slice_range a start (start + len)) (as_array writes keeps start bytes own from until faultless done)
            ∙ merged_range (array_at c s h from) bytes start (omega (arith, fits, size))
