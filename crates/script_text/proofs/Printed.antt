-- The text of a replay as it is written.
use Rattle.std.proofs.Common.{◌≡◌, ℕ, ◌+◌, ◌<◌, Bool, true, false, cond, List, [], ◌∷◌, ◌++◌, length, map, take, get_or, Result, Ok, Err, refl, sym, ap, ◌∙◌, append_assoc, arith}
use Rattle.std.specs.Prelude.{OnOk}
use Rattle.std.proofs.lemmas.List.{append-nil, map_push, take_more, take_all}
use Rattle.std.proofs.lemmas.List.Concat.{flat_map-append}
use Rattle.quorum_rules.specs.Limits.{Numbers}
use Rattle.text_lines.specs.Lines.{text_of_lines}
use Rattle.wire_forms.specs.Liars.{Liars, IsAscending, has_number}
use Rattle.line_forms.specs.Heads.{head_lines, head_text}
use Rattle.event_lines.specs.Lines.{event_text}
use Rattle.event_lines.specs.declared.line.ReplayLine.{ReplayLine}
use Rattle.script_text.specs.declared.liars.Declared.{Declared}
use Rattle.script_text.specs.declared.liars.Declared.TheVariants.{Node, Client}
use Rattle.script_text.specs.Replays.{liar_line, declarations, replay_text}
use Rattle.script_text.proofs.lemmas.Ascending.{numbers_below, below_next}

-- one more line
pub line_added : (lines : List (List ℕ)) (line : List ℕ) → text_of_lines (lines ++ line ∷ []) ≡ text_of_lines lines ++ (line ++ 10 ∷ [])
line_added lines line = flat_map-append (λ l. l ++ 10 ∷ []) lines (line ∷ []) ∙ ap (λ (t : List ℕ). text_of_lines lines ++ t) (append-nil (line ++ 10 ∷ []))

-- the lines of the numbers below a limit, after a text
abbrev pub written : (ℕ → List ℕ) → List ℕ → ℕ → List ℕ → List ℕ
written line old limit ks = old ++ text_of_lines (map line (numbers_below limit ks))

pub none_written : (line : ℕ → List ℕ) (old ks : List ℕ) (limit : ℕ) → numbers_below limit ks ≡ [] → old ≡ written line old limit ks
none_written line old ks limit none = sym (ap (λ (xs : List ℕ). old ++ text_of_lines (map line xs)) none ∙ append-nil old)

pub all_written : (line : ℕ → List ℕ) (old ks : List ℕ) (limit : ℕ) → numbers_below limit ks ≡ ks → written line old limit ks ≡ old ++ text_of_lines (map line ks)
all_written line old ks limit all = ap (λ (xs : List ℕ). old ++ text_of_lines (map line xs)) all

pub number_skipped : (line : ℕ → List ℕ) (old ks : List ℕ) (k : ℕ) → IsAscending ks → has_number ks k ≡ false → written line old k ks ≡ written line old (k + 1) ks
number_skipped line old ks k up none =
    ap (λ (xs : List ℕ). old ++ text_of_lines (map line xs)) (sym (below_next k ks up ∙ ap (λ (b : Bool). numbers_below k ks ++ cond b (k ∷ []) []) none ∙ append-nil (numbers_below k ks)))

pub number_written : (line : ℕ → List ℕ) (old ks : List ℕ) (k : ℕ) → IsAscending ks → has_number ks k ≡ true → written line old k ks ++ (line k ++ 10 ∷ []) ≡ written line old (k + 1) ks
number_written line old ks k up there =
    append_assoc old (text_of_lines (map line (numbers_below k ks))) (line k ++ 10 ∷ [])
    ∙ ap (λ (t : List ℕ). old ++ t) (sym (line_added (map line (numbers_below k ks)) (line k)) ∙ ap text_of_lines (sym (map_push line (numbers_below k ks) k)))
    ∙ ap (λ (xs : List ℕ). old ++ text_of_lines (map line xs)) (sym (below_next k ks up ∙ ap (λ (b : Bool). numbers_below k ks ++ cond b (k ∷ []) []) there))

in_pieces : (old w d end : List ℕ) → ((old ++ w) ++ d) ++ end ≡ old ++ ((w ++ d) ++ end)
in_pieces old w d end = simp append_assoc

-- the line of a number that is there, written in pieces
pub pieces_written : (line : ℕ → List ℕ) (old ks word digits a b c e : List ℕ) (k : ℕ) → IsAscending ks → has_number ks k ≡ true → line k ≡ word ++ digits → a ≡ written line old k ks → b ≡ a ++ word → c ≡ b ++ digits → e ≡ c ++ 10 ∷ [] → e ≡ written line old (k + 1) ks
pieces_written line old ks word digits a b c e k up there is ea eb ec ee =
    ee ∙ ap (λ (t : List ℕ). t ++ 10 ∷ []) (ec ∙ ap (λ (t : List ℕ). t ++ digits) (eb ∙ ap (λ (t : List ℕ). t ++ word) ea))
    ∙ in_pieces (written line old k ks) word digits (10 ∷ []) ∙ ap (λ (l : List ℕ). written line old k ks ++ (l ++ 10 ∷ [])) (sym is) ∙ number_written line old ks k up there

declared_lines : (f : ℕ → Declared) (ks : List ℕ) (rest : List Declared) → map liar_line (map f ks ++ rest) ≡ map (λ k. liar_line (f k)) ks ++ map liar_line rest
declared_lines f [] rest = refl
declared_lines f (k ∷ ks) rest = ap (λ (ls : List (List ℕ)). liar_line (f k) ∷ ls) (declared_lines f ks rest)

client_lines : (ks : List ℕ) → map liar_line (map Client ks) ≡ map (λ k. liar_line (Client k)) ks
client_lines [] = refl
client_lines (k ∷ ks) = ap (λ (ls : List (List ℕ)). liar_line (Client k) ∷ ls) (client_lines ks)

-- the lines of nodes and then of clients are those of all liars
pub liars_written : (l : Liars) (old a b : List ℕ) → a ≡ old ++ text_of_lines (map (λ n. liar_line (Node n)) l.nodes) → b ≡ a ++ text_of_lines (map (λ k. liar_line (Client k)) l.clients) → b ≡ old ++ text_of_lines (map liar_line (declarations l))
liars_written l old a b ea eb =
    let nodes = map (λ n. liar_line (Node n)) l.nodes in
    let clients = map (λ k. liar_line (Client k)) l.clients in
    let lines : map liar_line (declarations l) ≡ nodes ++ clients = declared_lines Node l.nodes (map Client l.clients) ∙ ap (λ (ls : List (List ℕ)). nodes ++ ls) (client_lines l.clients) in
    eb ∙ ap (λ (t : List ℕ). t ++ text_of_lines clients) ea ∙ append_assoc old (text_of_lines nodes) (text_of_lines clients)
    ∙ ap (λ (t : List ℕ). old ++ t) (sym (flat_map-append (λ l. l ++ 10 ∷ []) nodes clients) ∙ ap text_of_lines (sym lines))

pub ok_also : {T E : Type 0} (r : Result T E) (new a b : List ℕ) → (new ≡ a → new ≡ b) → OnOk r (new ≡ a) → OnOk r (new ≡ b)
ok_also (Ok t) new a b f h = f h
ok_also (Err d) new a b f h = h

-- the text as far as so many event lines
abbrev pub front_text : Numbers → Liars → List ReplayLine → List ℕ
front_text c l es = (head_text c ++ text_of_lines (map liar_line (declarations l))) ++ text_of_lines (map event_text es)

pub front_whole : (c : Numbers) (l : Liars) (es : List ReplayLine) → front_text c l es ≡ replay_text c l es
front_whole c l es =
    let liars = map liar_line (declarations l) in
    let events = map event_text es in
    append_assoc (head_text c) (text_of_lines liars) (text_of_lines events)
    ∙ ap (λ (t : List ℕ). head_text c ++ t) (sym (flat_map-append (λ l. l ++ 10 ∷ []) liars events)) ∙ sym (flat_map-append (λ l. l ++ 10 ∷ []) (head_lines c) (liars ++ events))

-- one more event line
pub event_written : (c : Numbers) (l : Liars) (es : List ReplayLine) (i : ℕ) (d : ReplayLine) (a b e : List ℕ) → i < length es → a ≡ front_text c l (take i es) → b ≡ a ++ event_text (get_or es i d) → e ≡ b ++ 10 ∷ [] → e ≡ front_text c l (take (i + 1) es)
event_written c l es i d a b e lt ea eb ee =
    let before = head_text c ++ text_of_lines (map liar_line (declarations l)) in
    let line = event_text (get_or es i d) in
    let more : map event_text (take (i + 1) es) ≡ map event_text (take i es) ++ line ∷ [] = ap (map event_text) (take_more es i d lt) ∙ map_push event_text (take i es) (get_or es i d) in
    ee ∙ ap (λ (t : List ℕ). t ++ 10 ∷ []) (eb ∙ ap (λ (t : List ℕ). t ++ line) ea)
    ∙ append_assoc (front_text c l (take i es)) line (10 ∷ []) ∙ append_assoc before (text_of_lines (map event_text (take i es))) (line ++ 10 ∷ [])
    ∙ ap (λ (t : List ℕ). before ++ t) (sym (line_added (map event_text (take i es)) line) ∙ ap text_of_lines (sym more))

pub events_end : (c : Numbers) (l : Liars) (es : List ReplayLine) (i : ℕ) (a : List ℕ) → i ≡ length es → a ≡ front_text c l (take i es) → a ≡ replay_text c l es
events_end c l es i a end h = h ∙ ap (front_text c l) (take_all i es (omega arith)) ∙ front_whole c l es
