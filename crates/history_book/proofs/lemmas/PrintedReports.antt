-- The report of a book that has one is accepted, and is the report of no other.
use Rattle.std.proofs.Common.{◌≡◌, ℕ, List, [], ◌∷◌, ◌++◌, length, map, take, get_or, Some, None, refl, sym, ap, subst, ◌∙◌, append_assoc}
use Rattle.std.specs.Prelude.{slice_get, codes, decimal}
use Rattle.std.proofs.Math.Seq.{get_or-append_seam}
use Rattle.std.proofs.lemmas.List.{append-nil, take_at}
use Rattle.std.proofs.lemmas.List.Elements.{filter_map-append}
use Rattle.text_lines.specs.Lines.{parts_of, fields_of, text_of_lines}
use Rattle.text_lines.specs.Fields.{value_text}
use Rattle.line_forms.specs.Texts.{IsFaultless}
use Rattle.history_making.specs.declared.entry.Entry.{Entry as EntryRecord}
use Rattle.history_making.specs.declared.entry.Spent.{Spent as SpentRecord}
use Rattle.history_making.specs.declared.entry.Counts.{Counts}
use Rattle.history_book.specs.declared.reading.ReportLine.TheVariants.{End}
use Rattle.history_making.specs.Books.{Book}
use Rattle.history_book.specs.Reports.{kind_word, place_text, stamp_text, entry_line, spent_line, end_line, count_text, further_counts, report_text}
use Rattle.history_book.specs.ReportTexts.{entry_told, spent_told, counts_told, entries_in, spent_in, report, MayFollow, MayFollowSpent, AreToldEntries, AreToldSpent, IsReport}
use Rattle.history_book.proofs.ReadLines.{Told, told_lines, told_none, next_entry, next_spent, book_of, end_line as end_line_read, text_faultless, IsEnded}
use Rattle.history_book.proofs.Words.{first_apart}
use Rattle.history_book.proofs.PrintedEntries.{entry_words, entry_read}
use Rattle.history_book.proofs.PrintedOthers.{spent_words, spent_read, end_words, end_read, end_apart, counts_back}
use Rattle.lists.proofs.lemmas.Members.{slice_get-seam}

-- ---- what stands in the middle of a list

-- each element is right after those before it, so one in the middle is
right_there : {A : Type 0} (P : List A → A → Type 0) (xs : List A) (y : A) (ys all : List A) → xs ++ y ∷ ys ≡ all → ((i : ℕ) (x : A) → slice_get all i ≡ Some x → P (take i all) x) → P xs y
right_there {A} P xs y ys all e h =
    let there : slice_get all (length xs) ≡ Some y = ap (λ (zs : List A). slice_get zs (length xs)) (sym e) ∙ slice_get-seam xs y ys in
    let front : take (length xs) all ≡ xs = ap (take (length xs)) (sym e) ∙ take_at xs (y ∷ ys) (length xs) refl in
    subst (λ (zs : List A). P zs y) front (h (length xs) y there)

-- ---- the lines of a report, one after another

entries_read : (text : List ℕ) (before more all : List EntryRecord) (lines : List (List ℕ)) → before ++ more ≡ all → AreToldEntries all → Told text before [] (text_of_lines (map entry_line more ++ lines)) → Told text all [] (text_of_lines lines)
entries_read text before [] all lines e h r = subst (λ (es : List EntryRecord). Told text es [] (text_of_lines lines)) (sym (append-nil before) ∙ e) r
entries_read text before (x ∷ more) all lines e h r =
    let may : MayFollow before x = right_there MayFollow before x more all e h in
    let after = map entry_line more ++ lines in
    let parts = first_apart (decimal x.block) (stamp_text x ∷ kind_word x.kind ∷ decimal x.client ∷ place_text x.start ∷ place_text x.end ∷ value_text x.value ∷ []) after (entry_words x may.told) in
    let next = next_entry text before [] _ (entry_line x) (text_of_lines after) x r parts (entry_read before x may) in
    entries_read text (before ++ x ∷ []) more all lines (append_assoc before (x ∷ []) more ∙ e) h next.0

spent_lines_read : (text : List ℕ) (entries : List EntryRecord) (before more all : List SpentRecord) (lines : List (List ℕ)) → before ++ more ≡ all → AreToldSpent all → Told text entries before (text_of_lines (map spent_line more ++ lines)) → Told text entries all (text_of_lines lines)
spent_lines_read text entries before [] all lines e h r = subst (λ (xs : List SpentRecord). Told text entries xs (text_of_lines lines)) (sym (append-nil before) ∙ e) r
spent_lines_read text entries before (x ∷ more) all lines e h r =
    let may : MayFollowSpent before x = right_there MayFollowSpent before x more all e h in
    let after = map spent_line more ++ lines in
    let parts = first_apart (codes "spent") (decimal x.client ∷ decimal x.start ∷ decimal x.end ∷ []) after (spent_words x may.told) in
    let next = next_spent text entries before _ (spent_line x) (text_of_lines after) x r parts (spent_read entries before x may) in
    spent_lines_read text entries (before ++ x ∷ []) more all lines (append_assoc before (x ∷ []) more ∙ e) h next.0

-- a report is read up to its end line
pub report_told : (book : Book) → IsReport book → Told (report_text book) book.entries book.spent (text_of_lines (end_line book.counts ∷ []))
report_told book h =
    let text = report_text book in
    let entries = map entry_line book.entries in
    let spent = map spent_line book.spent in
    let end = end_line book.counts ∷ [] in
    let split : text ≡ text_of_lines (entries ++ (spent ++ end)) = ap text_of_lines (append_assoc entries spent end) in
    let first : Told text [] [] (text_of_lines (entries ++ (spent ++ end))) = subst (λ (rest : List ℕ). Told text [] [] rest) split (told_none text) in
    spent_lines_read text book.entries [] book.spent book.spent end refl h.spent (entries_read text [] book.entries book.entries (spent ++ end) refl h.entries first)

-- and its end line is its last line
end_parts : (book : Book) → IsReport book → parts_of (text_of_lines (end_line book.counts ∷ [])) ≡ end_line book.counts ∷ [] ∷ []
end_parts book h =
    let c = book.counts in
    first_apart (codes "end") (count_text (codes "done") c.done ∷ count_text (codes "spent") c.spent ∷ further_counts c) [] (end_words book.entries book.spent c h.counts)

pub report_accepted : (book : Book) → IsReport book → IsFaultless report (report_text book)
report_accepted book h =
    let text = report_text book in
    let ended : IsEnded text book.entries book.spent [] book.entries book.spent book.counts =
    end_line_read text book.entries book.spent (text_of_lines (end_line book.counts ∷ [])) (end_line book.counts) [] (End book.counts) book.entries book.spent book.counts (report_told book h) (end_parts book h) (end_read book.entries book.spent book.counts h.counts) (refl, refl, refl) in
    text_faultless text book ended.0 [] ended.1 refl

-- ---- what the parts of a report tell

report_parts : (book : Book) → IsReport book → parts_of (report_text book) ≡ told_lines book.entries book.spent ++ end_line book.counts ∷ [] ∷ []
report_parts book h = (report_told book h).reads.parts ∙ ap (λ (ps : List (List ℕ)). told_lines book.entries book.spent ++ ps) (end_parts book h)

entries_back : (book : Book) → IsReport book → entries_in (parts_of (report_text book)) ≡ book.entries
entries_back book h =
    let apart = end_apart book.entries book.spent book.counts h.counts in
    let none : entry_told (fields_of (end_line book.counts)) ≡ None = ap entry_told apart in
    ap entries_in (report_parts book h) ∙ filter_map-append (λ l. entry_told (fields_of l)) (told_lines book.entries book.spent) (end_line book.counts ∷ [] ∷ []) ∙ rw ((report_told book h).told, none) (append-nil book.entries)

spent_writes_back : (book : Book) → IsReport book → spent_in (parts_of (report_text book)) ≡ book.spent
spent_writes_back book h =
    let apart = end_apart book.entries book.spent book.counts h.counts in
    let none : spent_told (fields_of (end_line book.counts)) ≡ None = ap spent_told apart in
    ap spent_in (report_parts book h) ∙ filter_map-append (λ l. spent_told (fields_of l)) (told_lines book.entries book.spent) (end_line book.counts ∷ [] ∷ []) ∙ rw ((report_told book h).told_spent, none) (append-nil book.spent)

last_line : (book : Book) → IsReport book → get_or (parts_of (report_text book)) (length (told_lines book.entries book.spent)) [] ≡ end_line book.counts
last_line book h = ap (λ (ps : List (List ℕ)). get_or ps (length (told_lines book.entries book.spent)) []) (report_parts book h) ∙ get_or-append_seam (told_lines book.entries book.spent) (end_line book.counts) ([] ∷ []) []

same_counts : (c d : Counts) → Some c ≡ Some d → c ≡ d
same_counts c d e = cc

pub one_report : (a b : Book) → IsReport a → IsReport b → report_text a ≡ report_text b → a ≡ b
one_report a b h g e =
    let entries : a.entries ≡ b.entries = sym (entries_back a h) ∙ ap (λ (t : List ℕ). entries_in (parts_of t)) e ∙ entries_back b g in
    let spent : a.spent ≡ b.spent = sym (spent_writes_back a h) ∙ ap (λ (t : List ℕ). spent_in (parts_of t)) e ∙ spent_writes_back b g in
    let place : length (told_lines a.entries a.spent) ≡ length (told_lines b.entries b.spent) = ap (λ (es : List EntryRecord). length (told_lines es a.spent)) entries ∙ ap (λ (xs : List SpentRecord). length (told_lines b.entries xs)) spent in
    let line : end_line a.counts ≡ end_line b.counts =
    sym (last_line a h) ∙ ap (λ (t : List ℕ). get_or (parts_of t) (length (told_lines a.entries a.spent)) []) e ∙ ap (λ (n : ℕ). get_or (parts_of (report_text b)) n []) place ∙ last_line b g in
    let told_a : counts_told (fields_of (end_line a.counts)) ≡ Some a.counts = ap counts_told (end_apart a.entries a.spent a.counts h.counts) ∙ counts_back a.entries a.spent a.counts h.counts in
    let told_b : counts_told (fields_of (end_line b.counts)) ≡ Some b.counts = ap counts_told (end_apart b.entries b.spent b.counts g.counts) ∙ counts_back b.entries b.spent b.counts g.counts in
    let counts : a.counts ≡ b.counts = same_counts a.counts b.counts (sym told_a ∙ ap (λ (l : List ℕ). counts_told (fields_of l)) line ∙ told_b) in
    ap (λ (es : List EntryRecord). book_of es a.spent a.counts) entries ∙ ap (λ (xs : List SpentRecord). book_of b.entries xs a.counts) spent ∙ ap (λ (c : Counts). book_of b.entries b.spent c) counts
