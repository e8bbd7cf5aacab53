-- What is told of a run is a report.
use Rattle.std.proofs.Common.{◌≡◌, ℕ, ◌^◌, ◌≤◌, ◌<◌, List, length, refl, count_by, Option, sym, ap, ◌∙◌, inl, inr, arith}
use Rattle.std.specs.declared.option.Option.TheVariants.{None, Some}
use Rattle.std.specs.List.{Contains}
use Rattle.std.proofs.lemmas.List.{length-map}
use Rattle.std.proofs.lemmas.List.Sums.{count_by-le-length}
use Rattle.run_words.specs.declared.outcome.Outcome.TheVariants.{Gave}
use Rattle.protocol.specs.Setting.{Setting, IsValid, first_stamp}
use Rattle.protocol.specs.Operations.{How}
use Rattle.protocol.specs.World.{World, Record}
use Rattle.protocol.specs.Lines.{Line, IsRun}
use Rattle.protocol.specs.History.{Entry, Kind, IsEntry, IsRead, IsWrite, IsForeign, NoClash}
use Rattle.protocol.specs.History.Kind.{Read, Write, Foreign}
use Rattle.protocol.specs.Report.{SpentWrite, spent_writes, is_ended, is_done, is_spent, is_pending, is_repaired}
use Rattle.protocol.proofs.lemmas.Entries.{kind_made, start_made, end_made}
use Rattle.protocol.proofs.lemmas.Theorem.{run_legal, run_in_time}
use Rattle.protocol.proofs.lemmas.Kept.{run_told, run_blocks, run_done, run_spent, run_spent_ascend}
use Rattle.protocol.proofs.lemmas.Counts.{spent_writes_are}
use Rattle.history_making.specs.Books.{Book}
use Rattle.history_making.specs.declared.entry.Counts.{Counts}
use Rattle.history_making.specs.Numbers.{HaveNumbers}
use Rattle.history_book.specs.ReportTexts.{IsReport, AreCounts, HasPlaces, IsPlaceOrNone}
use Rattle.history_book.specs.Judging.{IsLegal, IsInTime}
use Rattle.history_making.specs.Tellings.{Tells, told_kind, told_spent}
use Rattle.history_book.proofs.lemmas.Reported.{IsWhole, told_entries, told_spent_writes, done_told}
use Rattle.history_book.proofs.lemmas.Judged.{is_legal, is_in_time}
use Rattle.script_run.specs.Histories.{FitsHistory}

module _ (s : Setting) (lines : List (ℕ × Line)) (w : World) (good : IsValid s) (run : IsRun s lines w) (small : FitsHistory w) where
  -- ---- places

  start_low : (r : Record) → Contains w.records r → r.start < 2 ^ 64
  start_low r k = let told = (run_told s lines w good run r k).start in let low = small.places in omega (arith, told, low)

  end_low : (r : Record) (end : ℕ) → Contains w.records r → r.end ≡ Some end → end < 2 ^ 64
  end_low r end k q = let told = (run_told s lines w good run r k).end end q in let low = small.places in omega (arith, told.1, low)

  place_or_none : (r : Record) → Contains w.records r → (end : Option ℕ) → r.end ≡ end → IsPlaceOrNone end
  place_or_none r k None q = tt
  place_or_none r k (Some end) q = end_low r end k q

  read_places : (e : Entry) (r : Record) → Contains w.records r → (how : How) (rounds : ℕ) → r.outcome ≡ Some (Gave e.stamp e.value how rounds) → (end : Option ℕ) → r.end ≡ end → HasPlaces (told_kind Read) (Some r.start) end
  read_places e r k how rounds gave None q = absurd (let none = (run_told s lines w good run r k).ended.0 q in cc)
  read_places e r k how rounds gave (Some end) q = (start_low r k, end_low r end k q)

  of_kind : (e : Entry) (kind : Kind) (start end : Option ℕ) → e.kind ≡ kind → e.start ≡ start → e.end ≡ end → HasPlaces (told_kind kind) start end → HasPlaces (told_kind e.kind) e.start e.end
  of_kind e kind start end p q r h = rw (p, q, r) h

  read_has : (e : Entry) → IsRead w.records e → HasPlaces (told_kind e.kind) e.start e.end
  read_has e h =
      let r = h.read in
      of_kind e Read (Some r.start) r.end (kind_made h.made) (start_made h.made) (end_made h.made) (read_places e r h.there h.how h.rounds h.gave r.end refl)

  write_has : (e : Entry) → IsWrite w.records e → HasPlaces (told_kind e.kind) e.start e.end
  write_has e h =
      let r = h.write in
      of_kind e Write (Some r.start) r.end (kind_made h.made) (start_made h.made) (end_made h.made) (start_low r h.there, place_or_none r h.there r.end refl)

  foreign_has : (e : Entry) → IsForeign w.records e → HasPlaces (told_kind e.kind) e.start e.end
  foreign_has e h = of_kind e Foreign None None (kind_made h.made) (start_made h.made) (end_made h.made) (refl, refl)

  entry_has : (e : Entry) → IsEntry w.records (first_stamp s) e → HasPlaces (told_kind e.kind) e.start e.end
  entry_has e (inl read) = read_has e read
  entry_has e (inr (inl write)) = write_has e write
  entry_has e (inr (inr foreign)) = foreign_has e foreign.1

  is_whole : (e : Entry) → IsEntry w.records (first_stamp s) e → IsWhole s.size e
  is_whole e h = let block = run_blocks s lines w good run e h in record { places = entry_has e h; length = block.0; bytes = block.1 }

  spent_places : (x : SpentWrite) → Contains (spent_writes w.records) x → (x.start < 2 ^ 64) × (x.end < 2 ^ 64)
  spent_places x k =
      let is = (spent_writes_are w.records x).0 k in
      let start = start_low is.0 is.1 in
      (rw (is.4) at start, end_low is.0 x.end is.1 is.5)

  module _ (h : List Entry) (book : Book) (tells : Tells w.records (first_stamp s) h book) where
    each_whole : (e : Entry) → Contains h e → IsWhole s.size e
    each_whole e k = is_whole e ((tells.history.entries e).0 k)

    -- ---- counts

    are_counts : AreCounts book.entries book.spent book.counts
    are_counts =
        let rs = w.records in
        let few = small.records in
        let done : book.counts.done ≡ count_by is_ended h = ap (λ (c : Counts). c.done) tells.counts ∙ run_done s lines w good run h (tells.history.sorted, tells.history.entries) in
        let spent : book.counts.spent ≡ length (spent_writes rs) = ap (λ (c : Counts). c.spent) tells.counts ∙ run_spent s lines w good run in
        let all_done = done_told s.size h h each_whole in
        let all_spent = length-map (spent_writes rs) told_spent in
        record {
          done_fits = (let e = ap (λ (c : Counts). c.done) tells.counts in omega (arith, e, few, count_by-le-length (λ (r : Record). is_done r.outcome) rs));
          spent_fits = (let e = ap (λ (c : Counts). c.spent) tells.counts in omega (arith, e, few, count_by-le-length (λ (r : Record). is_spent r.outcome) rs));
          pending = (let e = ap (λ (c : Counts). c.pending) tells.counts in omega (arith, e, few, count_by-le-length (λ (r : Record). is_pending r.end) rs));
          repaired = (let e = ap (λ (c : Counts). c.repaired) tells.counts in omega (arith, e, few, count_by-le-length (λ (r : Record). is_repaired r.outcome) rs));
          rounds = (let e = ap (λ (c : Counts). c.rounds) tells.counts in let most = small.rounds in omega (arith, e, most));
          done = rw tells.entries (done ∙ sym all_done);
          spent = rw tells.spent (spent ∙ sym all_spent);
        }

    -- ---- the report, and the registers

    pub is_report : 1 ≤ s.size → HaveNumbers book → IsReport book
    is_report some numbers =
        let entries = numbers.entries in
        let clients = numbers.spent in
        record {
          entries = rw tells.entries (told_entries s.size some h tells.history.sorted each_whole (rw tells.entries at entries));
          spent = rw tells.spent (told_spent_writes (spent_writes w.records) (run_spent_ascend s lines w good run) spent_places (rw tells.spent at clients));
          counts = are_counts;
        }

    pub are_plain : NoClash s w → IsLegal book.entries × IsInTime book.entries
    are_plain apart =
        rw tells.entries (
          is_legal h s.size h (λ e k. (each_whole e k).length) (run_legal s lines w good run h apart (tells.history.sorted, tells.history.entries)),
          is_in_time h h (run_in_time s lines w good run h apart (tells.history.sorted, tells.history.entries)),
        )
