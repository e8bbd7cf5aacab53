-- One more line of a replay script.
use Rattle.std.proofs.Common.{◌≡◌, ◌≢◌, ℕ, ◌+◌, ◌-◌, ◌≤◌, ◌<◌, false, List, [], ◌∷◌, ◌++◌, length, map, drop, take, Some, None, refl, sym, ap, subst, ◌∙◌, append_assoc, length-append, arith}
use Rattle.std.specs.List.{join_with_byte}
use Rattle.std.specs.List.Sorted.{IsStrictlySortedBy}
use Rattle.std.specs.Ordering.{nat_cmp}
use Rattle.std.proofs.lemmas.List.{map_push, append-nil, length-map, length-drop, drop_at}
use Rattle.std.proofs.lemmas.List.Splits.{join_with_byte-slice_split}
use Rattle.quorum_rules.specs.Limits.{Numbers, IsValid, IsOfScripts}
use Rattle.text_lines.specs.Lines.{parts_of, text_of_lines, line_of_fields}
use Rattle.text_lines.proofs.lemmas.Cuts.{rest_part}
use Rattle.text_lines.proofs.lemmas.Joined.{some_part}
use Rattle.wire_forms.specs.Liars.{Liars}
use Rattle.line_forms.specs.Heads.{header, head_lines, cluster_fields}
use Rattle.line_forms.specs.Texts.{IsFault, IsFaultless, ReadsTo, end_causes}
use Rattle.line_forms.specs.declared.cause.Cause.{Cause}
use Rattle.line_forms.specs.declared.cause.Cause.TheVariants.{Cut}
use Rattle.line_forms.specs.Tables.{first_of}
use Rattle.line_forms.proofs.lemmas.Accepted.{numbers_back}
use Rattle.line_forms.proofs.lemmas.Texts.{reads_on, line_fault, end_fault, read_all, text_read}
use Rattle.event_lines.specs.Lines.{event_text, IsEventLine}
use Rattle.event_lines.specs.declared.line.ReplayLine.{ReplayLine}
use Rattle.script_text.specs.declared.liars.Declared.{Declared}
use Rattle.script_text.specs.declared.liars.Front.{Front}
use Rattle.script_text.specs.Replays.{liar_line, event_limit, AreAscendingLiars, IsReplay, Spells, replay_cause, replay_lines, replay_script, with_declared, IsDeclarable, is_liar_line}
use Rattle.script_text.specs.Reading.{AreDeclared, AreAscending, LiarsRead, FrontRead, EventsRead, again_cause, later_cause}
use Rattle.script_text.proofs.Declarations.{none_declared, one_declared, free_from_none, declared_inside}
use Rattle.script_text.proofs.Causes.{later_here}
use Rattle.lists.proofs.lemmas.Members.{all_push}

-- the lines of the body of a script
abbrev pub body_lines : List Declared → List ReplayLine → List (List ℕ)
body_lines ds es = map liar_line ds ++ map event_text es

-- what is wrong with a line of the body
pub body_here : (c : Numbers) (body : List (List ℕ)) (line : List ℕ) → IsValid c → IsOfScripts c → replay_script.cause (head_lines c ++ body) line ≡ replay_cause c body line
body_here c body line v known = ap (λ (k : Numbers). replay_cause k body line) (numbers_back c v known)

body_length : (c : Numbers) (ds : List Declared) (es : List ReplayLine) → length (replay_lines c ds es) ≡ length ds + length es + 2
body_length c ds es =
    let a = length-append (map liar_line ds) (map event_text es) in
    let b = length-map ds liar_line in
    let e = length-map es event_text in
    omega arith

-- ---- a place in a text

-- what is left of a text stands at the place that leaves as many bytes
pub rest_at : (text : List ℕ) (ls : List (List ℕ)) (rest : List ℕ) → ReadsTo replay_script text ls rest → drop (length text - length rest) text ≡ rest
rest_at text ls rest r =
    let whole : text ≡ text_of_lines ls ++ rest = sym (join_with_byte-slice_split 10 text) ∙ ap (join_with_byte 10) r.parts ∙ joined ls rest in
    let len = length-append (text_of_lines ls) rest in
    let at : length text - length rest ≡ length (text_of_lines ls) = omega (arith, ap length whole) in
    ap (λ (n : ℕ). drop n text) at ∙ ap (drop (length (text_of_lines ls))) whole ∙ drop_at (text_of_lines ls) rest (length (text_of_lines ls)) refl
  where
    one : (line : List ℕ) (ps : List (List ℕ)) (rest : List ℕ) → join_with_byte 10 ps ≡ rest → ps ≢ [] → join_with_byte 10 (line ∷ ps) ≡ line ++ 10 ∷ rest
    one line [] rest e some = absurd (some refl)
    one line (p ∷ ps) rest e some = ap (λ (t : List ℕ). line ++ 10 ∷ t) e

    some_parts : (ls : List (List ℕ)) (rest : List ℕ) → ls ++ parts_of rest ≢ []
    some_parts [] rest e = some_part 10 rest e
    some_parts (l ∷ ls) rest e = absurd cc

    joined : (ls : List (List ℕ)) (rest : List ℕ) → join_with_byte 10 (ls ++ parts_of rest) ≡ text_of_lines ls ++ rest
    joined [] rest = join_with_byte-slice_split 10 rest
    joined (l ∷ ls) rest = one l (ls ++ parts_of rest) (text_of_lines ls ++ rest) (joined ls rest) (some_parts ls rest) ∙ simp append_assoc

-- ---- liar lines

liars_alone : (c : Numbers) (ds : List Declared) → replay_lines c ds [] ≡ head_lines c ++ map liar_line ds
liars_alone c ds = ap (λ (ls : List (List ℕ)). head_lines c ++ ls) (append-nil (map liar_line ds))

none_ascend : (l : Liars) → l.nodes ≡ [] → l.clients ≡ [] → AreAscending l
unfolding IsStrictlySortedBy
none_ascend l n k = (subst (IsStrictlySortedBy nat_cmp) (sym n) tt, subst (IsStrictlySortedBy nat_cmp) (sym k) tt)

-- the head was read, and nobody is declared yet
pub liars_begin : (text : List ℕ) (c : Numbers) (l : Liars) (at : ℕ) → IsValid c → IsOfScripts c → l.nodes ≡ [] → l.clients ≡ [] → at ≤ length text → ReadsTo replay_script text (head_lines c) (drop at text) → LiarsRead text c l (take (length text - at) (drop at text)) 3
liars_begin text c l at v known n k low r =
    let whole = rest_part text at in
    let len = length-drop at text in
    let seen : List ℕ → List ℕ → Liars = λ ns ks. record { nodes = ns; clients = ks } in
    let none : record { nodes = []; clients = [] } ≡ l = ap (λ (ns : List ℕ). seen ns []) (sym n) ∙ ap (λ (ks : List ℕ). seen l.nodes ks) (sym k) in
    record {
      declared = [];
      are = subst (AreDeclared c []) none (none_declared c v known);
      ascending = none_ascend l n k;
      reads = subst (ReadsTo replay_script text (head_lines c)) (sym whole) r;
      number_is = refl;
      room = omega (arith, ap length whole, len);
    }

-- no liar line is next
pub liars_end : (text : List ℕ) (front : Front) (rest : List ℕ) → front.at ≡ length text - length rest → LiarsRead text front.config front.liars rest front.number
    → ((line after : List ℕ) → parts_of rest ≡ line ∷ parts_of after → is_liar_line line ≡ false) → FrontRead text front
liars_end text front rest at h none =
    let here : rest ≡ drop front.at text = sym (rest_at text _ rest h.reads) ∙ ap (λ (n : ℕ). drop n text) (sym at) in
    record {
      within = omega arith;
      liars = subst (λ (r : List ℕ). LiarsRead text front.config front.liars r front.number) here h;
      events = subst (λ (r : List ℕ). (line after : List ℕ) → parts_of r ≡ line ∷ parts_of after → is_liar_line line ≡ false) here none;
    }

liars_cause : (c : Numbers) (ds : List Declared) (line : List ℕ) → IsValid c → IsOfScripts c → replay_script.cause (replay_lines c ds []) line ≡ replay_cause c (map liar_line ds) line
liars_cause c ds line v known = ap (λ (ls : List (List ℕ)). replay_script.cause ls line) (liars_alone c ds) ∙ body_here c (map liar_line ds) line v known

-- the next liar line has a cause
pub liar_fault : (text : List ℕ) (c : Numbers) (l : Liars) (rest line after : List ℕ) (number : ℕ) (cause : Cause) (h : LiarsRead text c l rest number) → parts_of rest ≡ line ∷ parts_of after → replay_cause c (map liar_line h.declared) line ≡ Some cause → IsFault replay_script text number cause
liar_fault text c l rest line after number cause h e wrong =
    let here = line_fault replay_script text (replay_lines c h.declared []) line rest after cause h.reads e (liars_cause c h.declared line h.are.valid h.are.of_scripts ∙ wrong) in
    let len = body_length c h.declared [] in
    let at : length (replay_lines c h.declared []) + 1 ≡ number = let is = h.number_is in omega arith in
    subst (λ (n : ℕ). IsFault replay_script text n cause) at here

-- the next liar line was read
pub liar_read : (text : List ℕ) (c : Numbers) (l m : Liars) (rest line after : List ℕ) (number next : ℕ) (d : Declared) (h : LiarsRead text c l rest number) → parts_of rest ≡ line ∷ parts_of after → length after < length rest
    → replay_cause c (map liar_line h.declared) line ≡ None → (liar_line d ≡ line) × IsDeclarable c d × (again_cause c l d ≡ None) → m ≡ with_declared l d → AreAscending m → next ≡ number + 1 → LiarsRead text c m after next
liar_read text c l m rest line after number next d h e shorter none says is up count =
    let on = reads_on replay_script text (replay_lines c h.declared []) line rest after h.reads e (liars_cause c h.declared line h.are.valid h.are.of_scripts ∙ none) in
    let lines : replay_lines c h.declared [] ++ line ∷ [] ≡ replay_lines c (h.declared ++ d ∷ []) [] =
    ap (λ (ls : List (List ℕ)). ls ++ line ∷ []) (liars_alone c h.declared) ∙ ap (λ (x : List ℕ). head_lines c ++ (map liar_line h.declared ++ x ∷ [])) (sym says.0)
    ∙ ap (λ (ls : List (List ℕ)). head_lines c ++ ls) (sym (map_push liar_line h.declared d)) ∙ sym (liars_alone c (h.declared ++ d ∷ [])) in
    let len = length-append h.declared (d ∷ []) in
    let is_number = h.number_is in
    let room = h.room in
    record {
      declared = h.declared ++ d ∷ [];
      are = subst (λ (k : Liars). AreDeclared c (h.declared ++ d ∷ []) k) (sym is) (one_declared c h.declared l d h.are says.1 (free_from_none c l d says.2));
      ascending = up;
      reads = subst (λ (ls : List (List ℕ)). ReadsTo replay_script text ls after) lines on;
      number_is = omega arith;
      room = omega arith;
    }

-- ---- event lines

-- all liar lines were read, and no event line yet
pub events_begin : (text : List ℕ) (front : Front) → FrontRead text front → EventsRead text front.config front.liars [] (take (length text - front.at) (drop front.at text)) front.number
events_begin text front f =
    let h = f.liars in
    subst (λ (r : List ℕ). EventsRead text front.config front.liars [] r front.number) (sym (rest_part text front.at)) (record {
      declared = h.declared;
      are = h.are;
      ascending = h.ascending;
      events = tt;
      limited = omega arith;
      reads = h.reads;
      events_begin = λ none. f.events;
      number_is = let is = h.number_is in omega arith;
      room = h.room;
    })

-- what is wrong with the next line
events_cause : (text : List ℕ) (c : Numbers) (l : Liars) (es : List ReplayLine) (rest line after : List ℕ) (number : ℕ) (h : EventsRead text c l es rest number) → parts_of rest ≡ line ∷ parts_of after → replay_script.cause (replay_lines c h.declared es) line ≡ later_cause c (length es) line
events_cause text c l es rest line after number h e =
    body_here c (body_lines h.declared es) line h.are.valid h.are.of_scripts ∙ later_here c h.declared es line h.are.valid h.are.declarable h.events (λ none. h.events_begin none line after e)

number_at : (text : List ℕ) (c : Numbers) (l : Liars) (es : List ReplayLine) (rest : List ℕ) (number : ℕ) (h : EventsRead text c l es rest number) → length (replay_lines c h.declared es) + 1 ≡ number
number_at text c l es rest number h = let len = body_length c h.declared es in let is = h.number_is in omega arith

-- the next line has a cause
pub event_fault : (text : List ℕ) (c : Numbers) (l : Liars) (es : List ReplayLine) (rest line after : List ℕ) (number : ℕ) (cause : Cause) → EventsRead text c l es rest number → parts_of rest ≡ line ∷ parts_of after → later_cause c (length es) line ≡ Some cause → IsFault replay_script text number cause
event_fault text c l es rest line after number cause h e wrong =
    let here = line_fault replay_script text (replay_lines c h.declared es) line rest after cause h.reads e (events_cause text c l es rest line after number h e ∙ wrong) in
    subst (λ (n : ℕ). IsFault replay_script text n cause) (number_at text c l es rest number h) here

cut_end : (first : List ℕ) (ls : List (List ℕ)) (rest : List ℕ) → rest ≢ [] → first_of (end_causes replay_script (first ∷ ls) rest) ≡ Some Cut
cut_end first ls [] some = absurd (some refl)
cut_end first ls (b ∷ rest) some = refl

-- the next line has no newline
pub event_cut : (text : List ℕ) (c : Numbers) (l : Liars) (es : List ReplayLine) (rest : List ℕ) (number : ℕ) → EventsRead text c l es rest number → rest ≢ [] → parts_of rest ≡ rest ∷ [] → IsFault replay_script text number Cut
event_cut text c l es rest number h some e =
    let body = line_of_fields (cluster_fields c) ∷ body_lines h.declared es in
    let here = end_fault replay_script text (replay_lines c h.declared es) rest Cut h.reads e (cut_end (header c.edition) body rest some) in
    subst (λ (n : ℕ). IsFault replay_script text n Cut) (number_at text c l es rest number h) here

-- the next event line was read
pub event_read : (text : List ℕ) (c : Numbers) (l : Liars) (es more : List ReplayLine) (rest line after : List ℕ) (number next : ℕ) (event : ReplayLine) → EventsRead text c l es rest number → parts_of rest ≡ line ∷ parts_of after → length after < length rest
    → later_cause c (length es) line ≡ None → IsEventLine c event × (event_text event ≡ line) × (length es < event_limit c) → more ≡ es ++ event ∷ [] → next ≡ number + 1 → EventsRead text c l more after next
event_read text c l es more rest line after number next event h e shorter none says is count =
    let on = reads_on replay_script text (replay_lines c h.declared es) line rest after h.reads e (events_cause text c l es rest line after number h e ∙ none) in
    let lines : replay_lines c h.declared es ++ line ∷ [] ≡ replay_lines c h.declared (es ++ event ∷ []) =
    ap (λ (ls : List (List ℕ)). head_lines c ++ ls) (append_assoc (map liar_line h.declared) (map event_text es) (line ∷ []) ∙ ap (λ (x : List ℕ). map liar_line h.declared ++ (map event_text es ++ x ∷ [])) (sym says.1)
    ∙ ap (λ (ls : List (List ℕ)). map liar_line h.declared ++ ls) (sym (map_push event_text es event))) in
    let len = length-append es (event ∷ []) in
    let is_number = h.number_is in
    let room = h.room in
    let below = says.2 in
    subst (λ (ls : List ReplayLine). EventsRead text c l ls after next) (sym is) (record {
      declared = h.declared;
      are = h.are;
      ascending = h.ascending;
      events = all_push (IsEventLine c) es event h.events says.0;
      limited = omega arith;
      reads = subst (λ (ls : List (List ℕ)). ReadsTo replay_script text ls after) lines on;
      events_begin = λ none. absurd (omega arith);
      number_is = omega arith;
      room = omega arith;
    })

-- ---- a text read to its end

pub replay_read : (text : List ℕ) (c : Numbers) (l : Liars) (es : List ReplayLine) (rest : List ℕ) (number : ℕ) → EventsRead text c l es rest number → IsReplay c l es
replay_read text c l es rest number h =
    let inside = declared_inside c h.declared h.are.declarable in
    record {
      valid = h.are.valid;
      of_scripts = h.are.of_scripts;
      lying = subst (AreAscendingLiars c) h.are.all (record {
        may_lie = record {
          nodes = inside.0;
          few = subst (λ (k : Liars). length k.nodes ≤ c.b) (sym h.are.all) h.are.few;
          clients = inside.1;
        };
        ascending = subst AreAscending (sym h.are.all) h.ascending;
      });
      events = h.events;
      limited = h.limited;
    }

pub replay_spelled : (text : List ℕ) (c : Numbers) (l : Liars) (es : List ReplayLine) (rest : List ℕ) (number : ℕ) → EventsRead text c l es rest number → rest ≡ [] → Spells text c l es
replay_spelled text c l es rest number h none = record {
  declared = h.declared;
  once = h.are.once;
  all = h.are.all;
  spelled = text_read replay_script text (replay_lines c h.declared es) rest h.reads none;
}

pub replay_faultless : (text : List ℕ) (c : Numbers) (l : Liars) (es : List ReplayLine) (rest : List ℕ) (number : ℕ) → EventsRead text c l es rest number → rest ≡ [] → IsFaultless replay_script text
replay_faultless text c l es rest number h none = read_all replay_script text (header c.edition) (line_of_fields (cluster_fields c) ∷ body_lines h.declared es) rest h.reads none refl
