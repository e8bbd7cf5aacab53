-- A script has one report.
use Rattle.std.proofs.Common.{◌≡◌, ℕ, ◌+◌, List, [], ◌∷◌, map, sym, ap, subst, ◌∙◌}
use Rattle.quorum_rules.specs.Limits.{Numbers}
use Rattle.wire_forms.specs.Liars.{Liars}
use Rattle.event_lines.specs.declared.line.ReplayLine.{ReplayLine}
use Rattle.script_text.proofs.lemmas.ReplayLaws.{one_replay}
use Rattle.stamp_order.specs.declared.Stamp.{Stamp}
use Rattle.protocol.specs.Setting.{Setting, first_stamp}
use Rattle.protocol.specs.World.{Record}
use Rattle.protocol.specs.History.{Entry}
use Rattle.protocol.proofs.lemmas.Keys.{one_list}
use Rattle.history_making.specs.Books.{Book}
use Rattle.history_making.specs.Tellings.{Tells, told_entry}
use Rattle.history_making.specs.declared.entry.Entry as told
use Rattle.history_making.specs.declared.entry.Spent.{Spent}
use Rattle.history_making.specs.declared.entry.Counts.{Counts}
use Rattle.history_book.specs.Reports.{report_text}
use Rattle.script_run.specs.Performing.{CommandQueues, LeadsTo, Performs, after_line}
use Rattle.command_texts.specs.Replays.{cluster_of, Replays}

-- records have one history, which is told in one way
one_book : (records : List Record) (first : Stamp) (h k : List Entry) (b d : Book) → Tells records first h b → Tells records first k d → b ≡ d
one_book records first h k b d p q =
    let same : h ≡ k = one_list h k p.history.sorted q.history.sorted (λ e there. (q.history.entries e).1 ((p.history.entries e).0 there)) (λ e there. (p.history.entries e).1 ((q.history.entries e).0 there)) in
    let entries : b.entries ≡ d.entries = p.entries ∙ ap (λ (es : List Entry). map (told_entry es) es) same ∙ sym q.entries in
    let spent : b.spent ≡ d.spent = p.spent ∙ sym q.spent in
    let counts : b.counts ≡ d.counts = p.counts ∙ sym q.counts in
    let book : List told.Entry → List Spent → Counts → Book = λ es ss n. record { entries = es; spent = ss; counts = n } in
    ap (λ (es : List told.Entry). book es b.spent b.counts) entries ∙ ap (λ (ss : List Spent). book d.entries ss b.counts) spent ∙ ap (λ (n : Counts). book d.entries d.spent n) counts

module _ (s : Setting) (c : Numbers) where
  -- lines lead to one end
  one_end : (lines : List ReplayLine) (from : CommandQueues) (place : ℕ) (p q : CommandQueues) → LeadsTo s c from place lines p → LeadsTo s c from place lines q → p ≡ q
  one_end [] from place p q a b = a ∙ sym b
  one_end (line ∷ lines) from place p q a b = one_end lines (after_line s c from place line) (place + 1) p q a.1 b.1

-- the same lines in the same cluster have one book
same_book : (c d : Numbers) (l m : Liars) (es fs : List ReplayLine) (p q : CommandQueues) (h k : List Entry) (x y : Book) → c ≡ d → l ≡ m → es ≡ fs → Performs (cluster_of c l) c es p → Performs (cluster_of d m) d fs q
    → Tells p.world.records (first_stamp (cluster_of c l)) h x → Tells q.world.records (first_stamp (cluster_of d m)) k y → x ≡ y
same_book c d l m es fs p q h k x y config liars lines run other tells tale =
    let here : Performs (cluster_of c l) c es q =
    subst (λ (z : Numbers). Performs (cluster_of z l) z es q) (sym config)
    (subst (λ (z : Liars). Performs (cluster_of d z) d es q) (sym liars)
    (subst (λ (z : List ReplayLine). Performs (cluster_of d m) d z q) (sym lines) other)) in
    let cluster : cluster_of d m ≡ cluster_of c l = ap (λ (z : Numbers). cluster_of z m) (sym config) ∙ ap (cluster_of c) (sym liars) in
    let end : q ≡ p = one_end (cluster_of c l) c es _ 1 q p here run in
    one_book p.world.records (first_stamp (cluster_of c l)) h k x y tells
    (subst (λ (z : CommandQueues). Tells z.world.records (first_stamp (cluster_of c l)) k y) end (subst (λ (z : Setting). Tells q.world.records (first_stamp z) k y) cluster tale))

pub one_report : (input a b : List ℕ) → Replays input a → Replays input b → a ≡ b
one_report input a b r q =
    let same = one_replay input r.config q.config r.liars q.liars r.lines q.lines r.script.replay q.script.replay r.script.spelled q.script.spelled in
    r.shown ∙ ap report_text (same_book r.config q.config r.liars q.liars r.lines q.lines r.queues q.queues r.history q.history r.book q.book same.0 same.1 same.2 r.run q.run r.tells q.tells) ∙ sym q.shown
