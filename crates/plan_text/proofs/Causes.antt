-- What stands against a line, by what was seen of the lines before it, and what is seen after it.
use Rattle.std.proofs.Common.{◌≡◌, ℕ, ◌+◌, Bool, true, false, ◌||◌, ◌&&◌, not, ltb, leb, List, [], ◌∷◌, Option, Some, None, refl, ap, ◌∙◌}
use Rattle.std.specs.Prelude.{nat_eq, is_some, option_map}
use Rattle.std.specs.List.{filter_map}
use Rattle.std.specs.Ordering.{nat_cmp}
use Rattle.std.specs.BTreeSet.{BTreeSet, btree_set_len}
use Rattle.std.specs.Set.{distinct_count}
use Rattle.quorum_rules.specs.Limits.{Numbers}
use Rattle.line_forms.specs.Tables.{first_of, or_then}
use Rattle.line_forms.specs.declared.cause.Cause.{Cause}
use Rattle.line_forms.specs.declared.cause.Cause.TheVariants.{Twice, TooManyLiars, TooManyFaulty, LyingClient, TooManyLines, Device as DeviceCause}
use Rattle.line_forms.specs.declared.cause.DeviceFault.{DeviceFault}
use Rattle.plan_words.specs.Named.{pair_eq}
use Rattle.plan_words.specs.Plans.{step_limit}
use Rattle.plan_text.specs.declared.seen.Seen.{Seen}
use Rattle.plan_text.specs.Marks.{Marks}
use Rattle.plan_text.specs.Plans.{is_new, client_of, names_again, is_of_liar, is_liar_too_many, is_faulty_too_many, is_client_too_many, is_line_too_many, later_cause}
use Rattle.plan_text.specs.Reading.{HasAll, IsSeen, pair_cmp, seen_again, seen_of_liar, seen_client_too_many, seen_too_many, seen_cause}
use Rattle.plan_text.specs.Sets.{has}
use Rattle.plan_text.proofs.Sets.{has_is, len_is}

-- ---- the same cause by what was seen

-- the table of causes over its tests
abbrev pub table : Bool → Bool → Bool → Bool → Bool → Option DeviceFault → Option Cause
table a b d e f o = or_then (first_of ((a, Twice) ∷ (b, TooManyLiars) ∷ (d, TooManyFaulty) ∷ (e, LyingClient) ∷ (f, TooManyLines) ∷ [])) (option_map DeviceCause o)

same_or : (a b c d : Bool) → a ≡ b → c ≡ d → (a || c) ≡ (b || d)
same_or a b c d p q = rw (p, q) refl

again_is : (ms : List Marks) (seen : Seen) (m : Marks) → IsSeen ms seen → seen_again seen m ≡ names_again ms m
again_is ms seen m h =
    same_or _ _ _ _
    (same_or _ _ _ _
    (same_or _ _ _ _ (has_is nat_cmp nat_eq seen.faulty (filter_map (λ e. e.faulty_node) ms) h.faulty m.faulty_node) (has_is nat_cmp nat_eq seen.crashing (filter_map (λ e. e.crashing_client) ms) h.crashing m.crashing_client))
    (has_is pair_cmp pair_eq seen.dropped (filter_map (λ e. e.dropped) ms) h.dropped m.dropped))
    (has_is pair_cmp pair_eq seen.held (filter_map (λ e. e.held) ms) h.held m.held)

of_liar_is : (ms : List Marks) (seen : Seen) (m : Marks) → IsSeen ms seen → seen_of_liar seen m ≡ is_of_liar ms m
of_liar_is ms seen m h =
    same_or _ _ _ _ (has_is nat_cmp nat_eq seen.asking (filter_map (λ e. e.asking_client) ms) h.asking m.lying_client)
    (has_is nat_cmp nat_eq seen.lying (filter_map (λ e. e.lying_client) ms) h.lying m.asking_client)

new_client : (set : BTreeSet ℕ) (keys : List ℕ) (o : Option ℕ) → HasAll nat_cmp nat_eq set keys → btree_set_len set ≡ distinct_count nat_eq keys
    → ((is_some o && not (has nat_cmp set o)) && leb 64 (btree_set_len set)) ≡ (is_new nat_eq o keys && leb 64 (distinct_count nat_eq keys))
new_client set keys None h len = refl
new_client set keys (Some k) h len = rw (h k, len) refl

client_too_many_is : (ms : List Marks) (seen : Seen) (m : Marks) → IsSeen ms seen → seen_client_too_many seen m ≡ is_client_too_many ms m
client_too_many_is ms seen m h = new_client seen.clients (filter_map client_of ms) (client_of m) h.clients (len_is seen.clients (filter_map client_of ms) h.ordered h.clients)

too_many_is : (c : Numbers) (ms : List Marks) (seen : Seen) (m : Marks) → IsSeen ms seen → seen_too_many c seen m ≡ is_line_too_many c ms m
too_many_is c ms seen m h =
    same_or _ _ _ _
    (same_or _ _ _ _ (same_or _ _ _ _ (client_too_many_is ms seen m h) (ap (λ n. m.is_flood && leb 8 n) h.floods)) (ap (λ n. m.is_phase && leb 64 n) h.phases))
    (ap (λ n. ltb (step_limit c) (n + m.steps)) h.steps)

pub seen_is : (c : Numbers) (ms : List Marks) (seen : Seen) (m : Marks) → IsSeen ms seen → seen_cause c seen m ≡ later_cause c ms m
unfolding later_cause
seen_is c ms seen m h =
    let o = m.fault in
    let liars = ap (λ n. is_some m.lying_node && leb c.b n) h.lying_nodes in
    let faulty = ap (λ n. is_some m.faulty_node && leb c.t n) h.faulty_nodes in
    ap (λ x. table x (is_some m.lying_node && leb c.b seen.lying_nodes) (is_some m.faulty_node && leb c.t seen.faulty_nodes) (seen_of_liar seen m) (seen_too_many c seen m) o) (again_is ms seen m h)
    ∙ ap (λ x. table (names_again ms m) x (is_some m.faulty_node && leb c.t seen.faulty_nodes) (seen_of_liar seen m) (seen_too_many c seen m) o) liars
    ∙ ap (λ x. table (names_again ms m) (is_liar_too_many c ms m) x (seen_of_liar seen m) (seen_too_many c seen m) o) faulty
    ∙ ap (λ x. table (names_again ms m) (is_liar_too_many c ms m) (is_faulty_too_many c ms m) x (seen_too_many c seen m) o) (of_liar_is ms seen m h)
    ∙ ap (λ x. table (names_again ms m) (is_liar_too_many c ms m) (is_faulty_too_many c ms m) (is_of_liar ms m) x o) (too_many_is c ms seen m h)

-- ---- nothing stands against a line

pub record IsFree (c : Numbers) (ms : List Marks) (m : Marks) : Type 0 where
  pub again : names_again ms m ≡ false
  pub liar : is_liar_too_many c ms m ≡ false
  pub faulty : is_faulty_too_many c ms m ≡ false
  pub of_liar : is_of_liar ms m ≡ false
  pub line : is_line_too_many c ms m ≡ false
  pub fault : m.fault ≡ None

pub no_cause : (a b d e f : Bool) (o : Option DeviceFault) → table a b d e f o ≡ None → (a ≡ false) × (b ≡ false) × (d ≡ false) × (e ≡ false) × (f ≡ false) × (o ≡ None)
no_cause true b d e f o h = absurd cc
no_cause false true d e f o h = absurd cc
no_cause false false true e f o h = absurd cc
no_cause false false false true f o h = absurd cc
no_cause false false false false true o h = absurd cc
no_cause false false false false false (Some x) h = absurd cc
no_cause false false false false false None h = (refl, refl, refl, refl, refl, refl)

pub free_from_none : (c : Numbers) (ms : List Marks) (m : Marks) → later_cause c ms m ≡ None → IsFree c ms m
unfolding later_cause
free_from_none c ms m h =
    let p = no_cause (names_again ms m) (is_liar_too_many c ms m) (is_faulty_too_many c ms m) (is_of_liar ms m) (is_line_too_many c ms m) m.fault h in
    record { again = p.0; liar = p.1; faulty = p.2; of_liar = p.3; line = p.4; fault = p.5 }
