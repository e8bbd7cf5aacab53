-- A spent write or counts that may stand at a place of a report are told by their fields, and their line has no cause there.
use Rattle.std.proofs.Common.{◌≡◌, ℕ, ◌<◌, ◌^◌, false, List, [], ◌∷◌, ◌++◌, Option, Some, None, refl, sym, ap, ◌∙◌, arith, lit<, lit≤}
use Rattle.std.specs.Prelude.{codes, decimal, IfSome}
use Rattle.text_lines.specs.Lines.{fields_of, line_of_fields}
use Rattle.text_lines.proofs.lemmas.Numbers.{number_of-decimal}
use Rattle.history_making.specs.declared.entry.Entry.{Entry as EntryRecord}
use Rattle.history_making.specs.declared.entry.Spent.{Spent as SpentRecord}
use Rattle.history_making.specs.declared.entry.Counts.{Counts}
use Rattle.history_book.specs.declared.reading.ReportLine.TheVariants.{Spent, End}
use Rattle.history_book.specs.Reports.{count_text, spent_fields, end_fields, further_counts}
use Rattle.history_book.specs.ReportTexts.{IsToldSpent, MayFollowSpent, AreCounts, last_of, spent_numbers, count_told, count_numbers, spent_told, counts_told, is_not_later, line_cause}
use Rattle.history_book.proofs.OtherLines.{spent_right, counts_right}
use Rattle.history_book.proofs.ReadLines.{IsRead}
use Rattle.history_book.proofs.Words.{IsWord, AreWords, wide, word_decimal, word_append, none_empty, fields_apart}

-- ---- spent writes

pub spent_words : (x : SpentRecord) → IsToldSpent x → AreWords (spent_fields x)
spent_words x h = (record { some = lit< tt; space = refl; newline = refl }, (word_decimal x.client (wide x.client h.client), (word_decimal x.start h.start, (word_decimal x.end h.end, tt))))

-- the fields of a spent write tell it
pub spent_back : (x : SpentRecord) → IsToldSpent x → spent_told (spent_fields x) ≡ Some x
unfolding spent_numbers
spent_back x h = rw (number_of-decimal (2 ^ 32) x.client (lit≤ tt) h.client, number_of-decimal (2 ^ 64) x.start (lit≤ tt) h.start, number_of-decimal (2 ^ 64) x.end (lit≤ tt) h.end) refl

not_later : (last : Option SpentRecord) (x : SpentRecord) → IfSome last (λ d. d.start < x.start) → is_not_later last (Some x) ≡ false
not_later None x h = refl
not_later (Some d) x h = grind arith

-- the line of a spent write that may follow is read
pub spent_read : (entries : List EntryRecord) (before : List SpentRecord) (x : SpentRecord) → MayFollowSpent before x → IsRead (Spent x) entries before (line_of_fields (spent_fields x))
spent_read entries before x h =
    let words = spent_words x h.told in
    let apart : fields_of (line_of_fields (spent_fields x)) ≡ spent_fields x = fields_apart (codes "spent") (decimal x.client ∷ decimal x.start ∷ decimal x.end ∷ []) words in
    let right = spent_right before (codes "spent") (decimal x.client) (decimal x.start) (decimal x.end) x refl (none_empty (spent_fields x) words) (spent_back x h.told) (not_later (last_of before) x h.later) in
    (ap (line_cause entries before) apart ∙ right.0, (sym apart, h, ap spent_told apart ∙ spent_back x h.told))

-- ---- counts

count_word : (name : List ℕ) (n : ℕ) → IsWord name → n < 2 ^ 64 → IsWord (count_text name n)
count_word name n h lt = word_append (name ++ codes "=") (decimal n) (word_append name (codes "=") h (record { some = lit< tt; space = refl; newline = refl })) (word_decimal n lt)

pub end_words : (entries : List EntryRecord) (spent : List SpentRecord) (c : Counts) → AreCounts entries spent c → AreWords (end_fields c)
end_words entries spent c h = (
  record { some = lit< tt; space = refl; newline = refl },
  (
    count_word (codes "done") c.done (record { some = lit< tt; space = refl; newline = refl }) h.done_fits,
    (
      count_word (codes "spent") c.spent (record { some = lit< tt; space = refl; newline = refl }) h.spent_fits,
      (
        count_word (codes "pending") c.pending (record { some = lit< tt; space = refl; newline = refl }) h.pending,
        (count_word (codes "repaired") c.repaired (record { some = lit< tt; space = refl; newline = refl }) h.repaired, (count_word (codes "rounds") c.rounds (record { some = lit< tt; space = refl; newline = refl }) h.rounds, tt)),
      ),
    ),
  ),
)

counts_spelled_back : (entries : List EntryRecord) (spent : List SpentRecord) (c : Counts) → AreCounts entries spent c
    → count_numbers (count_text (codes "done") c.done) (count_text (codes "spent") c.spent) (count_text (codes "pending") c.pending) (count_text (codes "repaired") c.repaired) (count_text (codes "rounds") c.rounds) ≡ Some c
unfolding count_numbers count_told
counts_spelled_back entries spent c h =
    rw (
      number_of-decimal (2 ^ 64) c.done (lit≤ tt) h.done_fits,
      number_of-decimal (2 ^ 64) c.spent (lit≤ tt) h.spent_fits,
      number_of-decimal (2 ^ 64) c.pending (lit≤ tt) h.pending,
      number_of-decimal (2 ^ 64) c.repaired (lit≤ tt) h.repaired,
      number_of-decimal (2 ^ 64) c.rounds (lit≤ tt) h.rounds,
    ) refl

-- the fields of counts tell them
pub counts_back : (entries : List EntryRecord) (spent : List SpentRecord) (c : Counts) → AreCounts entries spent c → counts_told (end_fields c) ≡ Some c
counts_back entries spent c h = counts_spelled_back entries spent c h

pub end_apart : (entries : List EntryRecord) (spent : List SpentRecord) (c : Counts) → AreCounts entries spent c → fields_of (line_of_fields (end_fields c)) ≡ end_fields c
end_apart entries spent c h = fields_apart (codes "end") (count_text (codes "done") c.done ∷ count_text (codes "spent") c.spent ∷ further_counts c) (end_words entries spent c h)

-- the line of right counts is read
pub end_read : (entries : List EntryRecord) (spent : List SpentRecord) (c : Counts) → AreCounts entries spent c → IsRead (End c) entries spent (line_of_fields (end_fields c))
end_read entries spent c h =
    let apart = end_apart entries spent c h in
    let right =
    counts_right entries spent (codes "end") (count_text (codes "done") c.done) (count_text (codes "spent") c.spent) (count_text (codes "pending") c.pending) (count_text (codes "repaired") c.repaired) (count_text (codes "rounds") c.rounds) c refl refl (none_empty (end_fields c) (end_words entries spent c h))
    (counts_spelled_back entries spent c h) h.done h.spent in
    (ap (line_cause entries spent) apart ∙ right.0, (sym apart, h, tt))
