-- Asks on different blocks don't touch each other's versions: so the entries by number of the cells of a node are what a node with one cell does.
use Rattle.std.proofs.Common.{◌≡◌, ◌≢◌, ℕ, zero, suc, ◌<◌, ◌%◌, Bool, true, false, List, [], ◌∷◌, length, Option, refl, sym, ap, subst, ◌∙◌, inl, inr, arith}
use Rattle.std.specs.Prelude.{All, filter, slice_index_or, slice_set}
use Rattle.std.specs.declared.option.Option.TheVariants.{None, Some}
use Rattle.std.proofs.Math.Nat.{mod-lt}
use Rattle.std.proofs.lemmas.Bool.{eq-eqb}
use Rattle.std.proofs.lemmas.Bool.Decides.{eqb_tells}
use Rattle.std.proofs.lemmas.List.{get_or-set_other, length-set}
use Rattle.std.specs.List.{Contains, AllByRecursion}
use Rattle.std.proofs.lemmas.List.Elements.{All-head, All-tail}
use Rattle.quorum_rules.specs.Limits.{Numbers}
use Rattle.protocol.specs.Messages.{Message, Body, Ask, Stamp, Version, with_reply}
use Rattle.wire_forms.specs.declared.message.Body.TheVariants.{Ask as Asks, Answer as Answers}
use Rattle.protocol.specs.Count.{update}
use Rattle.protocol.specs.Nodes.{pruned}
use Rattle.protocol.specs.Instance.{setting}
use Rattle.node_core.specs.Seen.{SeenNode, versions_in, with_versions, reply_of, after_of}
use Rattle.liar_rules.specs.Answers.{answer_to}
use Rattle.journals.specs.declared.desk.Way.{Way}
use Rattle.journals.specs.declared.desk.Way.TheVariants.{Call, Lose, Hold}
use Rattle.journals.specs.declared.node.Nature.{Nature}
use Rattle.journals.specs.declared.node.Nature.TheVariants.{Honest, Lying as Lies}
use Rattle.journals.specs.declared.node.Silence.{Silence}
use Rattle.journals.specs.declared.node.Silence.TheVariants.{Crashed, Dropped, Held, Lying}
use Rattle.journals.specs.declared.node.NodeAct.{NodeAct}
use Rattle.journals.specs.declared.node.NodeAct.TheVariants.{Answered, Lied, Silent, CrashedAt, Delivered, LateLost, Pruned}
use Rattle.journals.specs.declared.node.NodeEntry.{NodeEntry}
use Rattle.journals.specs.Acts.{NodeState, Cause, act, answers, lied, true_answer, is_spent, one_less, can_prune, after, after_all, held_back, served, cause_of, way_of, act_by, MayCome, IsAct, NodeKept}
use Rattle.journals.specs.Acts.Cause.{Comes, ComesLate, Prunes}
use Rattle.locked_nodes.specs.Cells.{IsShare, IsWhole, IsOfShard, ComesTo}
use Rattle.locked_nodes.specs.Shards.{block_for, is_of_shard}
use Rattle.locked_nodes.proofs.Acting.{call_answers}
use Rattle.lists.proofs.lemmas.Members.{Contains-head, Contains-none, Contains-rest, Contains-cons_cases}

-- a node that isn't to crash, with no ask held back
pub record IsCalm (s : NodeState) : Type 0 where
  pub up : s.crashed ≡ false
  pub lasting : s.crash_after ≡ None
  pub clear : s.late ≡ []

-- two nodes of one number that keep the same versions of the blocks of this shard, of so many
pub record KeepAlike (shards shard : ℕ) (s t : SeenNode) : Type 0 where
  pub config : t.config ≡ s.config
  pub number : t.number ≡ s.number
  pub count : length t.blocks ≡ length s.blocks
  pub versions : (block : ℕ) → block % shards ≡ shard → versions_in t block ≡ versions_in s block

pub record AreAlike (shards shard : ℕ) (s t : NodeState) : Type 0 where
  pub calm : IsCalm s × IsCalm t
  pub nodes : KeepAlike shards shard s.node t.node

-- ---- what a calm node does

call_is : (nature : Nature) (s : NodeState) (ask : Message) → IsCalm s → act s nature Call ask ≡ answers s nature ask
call_is nature s ask calm = call_answers s nature ask calm.up (ap is_spent calm.lasting)

-- what a calm node does, where an ask isn't held back
abbrev pub IsPlain : NodeAct → Type 0
IsPlain (Answered ask reply) = Unit {0}
IsPlain (Lied ask reply) = Unit {0}
IsPlain (Silent ask why) = why ≢ Held
IsPlain (CrashedAt ask late) = ⊥
IsPlain (Delivered ask reply) = ⊥
IsPlain (LateLost ask) = ⊥
IsPlain (Pruned block stamp) = Unit {0}

not_lied : (ask m : Message) (late : Bool) (o : Option Message) → CrashedAt ask late ≡ lied m o → ⊥
not_lied ask m late None e = absurd (cc)
not_lied ask m late (Some r) e = absurd (cc)

no_crash : (nature : Nature) (s : NodeState) (ask : Message) → CrashedAt ask false ≡ answers s nature ask → ⊥
no_crash Honest s ask e = absurd (cc)
no_crash (Lies rule) s ask e = not_lied ask ask false (answer_to s.node.config rule ask ask.body) e

none_held : (late : List Message) (ask : Message) (rest : List Message) → late ≡ [] → late ≡ ask ∷ rest → ⊥
none_held late ask rest none some = absurd (cc)

not_whole : (shards : ℕ) → 1 < shards → shards ≡ 1 → ⊥
not_whole shards several one = omega arith

is_plain : (nature : Nature) (shards shard : ℕ) (s : NodeState) (a : NodeAct) → 1 < shards → IsCalm s → IsAct nature s a → IsOfShard shard shards a → IsPlain a
is_plain nature shards shard s (Answered ask reply) several calm is share = tt
is_plain nature shards shard s (Lied ask reply) several calm is share = tt
is_plain nature shards shard s (Silent ask why) several calm is share = λ held. not_whole shards several (subst (λ w. IsWhole shards (way_of w)) held share.1)
is_plain nature shards shard s (CrashedAt ask true) several calm is share = none_held s.late ask is.comes.1.0 calm.clear is.comes.1.1
is_plain nature shards shard s (CrashedAt ask false) several calm is share = no_crash nature s ask (is.done ∙ call_is nature s ask calm)
is_plain nature shards shard s (Delivered ask reply) several calm is share = none_held s.late ask is.comes.1.0 calm.clear is.comes.1.1
is_plain nature shards shard s (LateLost ask) several calm is share = none_held s.late ask is.comes.1.0 calm.clear is.comes.1.1
is_plain nature shards shard s (Pruned block stamp) several calm is share = tt

held_calm : (s : NodeState) (ask : Message) (why : Silence) → why ≢ Held → IsCalm s → held_back s ask why ≡ s
held_calm s ask Held plain calm = absurd (plain refl)
held_calm s ask Crashed plain calm = refl
held_calm s ask Dropped plain calm = refl
held_calm s ask Lying plain calm = refl

after_calm : (s : NodeState) (a : NodeAct) → IsPlain a → IsCalm s → IsCalm (after s a)
after_calm s (Answered ask reply) plain calm = record { up = calm.up; lasting = ap one_less calm.lasting; clear = calm.clear }
after_calm s (Lied ask reply) plain calm = calm
after_calm s (Silent ask why) plain calm = subst IsCalm (sym (held_calm s ask why plain calm)) calm
after_calm s (CrashedAt ask late) plain calm = absurd plain
after_calm s (Delivered ask reply) plain calm = absurd plain
after_calm s (LateLost ask) plain calm = absurd plain
after_calm s (Pruned block stamp) plain calm = record { up = calm.up; lasting = calm.lasting; clear = calm.clear }

-- ---- versions of a block that is set, and of the others

set_alike : (xs ys : List (List Version)) (i k : ℕ) (vs : List Version) → length ys ≡ length xs → slice_index_or ys k [] ≡ slice_index_or xs k [] → slice_index_or (slice_set ys i vs) k [] ≡ slice_index_or (slice_set xs i vs) k []
set_alike [] [] i k vs count e = e
set_alike [] (y ∷ ys) i k vs count e = absurd (omega (arith, count))
set_alike (x ∷ xs) [] i k vs count e = absurd (omega (arith, count))
set_alike (x ∷ xs) (y ∷ ys) zero zero vs count e = refl
set_alike (x ∷ xs) (y ∷ ys) zero (suc k) vs count e = e
set_alike (x ∷ xs) (y ∷ ys) (suc i) zero vs count e = e
set_alike (x ∷ xs) (y ∷ ys) (suc i) (suc k) vs count e = set_alike xs ys i k vs (omega (arith, count)) e

other_block : (shards shard i block k : ℕ) → block % shards ≡ i → k % shards ≡ shard → i ≢ shard → k ≢ block
other_block shards shard i block k own other apart = λ same. apart (sym own ∙ ap (λ b. b % shards) (sym same) ∙ other)

-- the versions of a block of the shard are set at both
set_both : (shards shard : ℕ) (s t : SeenNode) (block : ℕ) (vs ws : List Version) → KeepAlike shards shard s t → ws ≡ vs → KeepAlike shards shard (with_versions s block vs) (with_versions t block ws)
set_both shards shard s t block vs ws alike same = record {
  config = alike.config;
  number = alike.number;
  count = length-set t.blocks block ws ∙ alike.count ∙ sym (length-set s.blocks block vs);
  versions = λ k own. ap (λ x. versions_in (with_versions t block x) k) same ∙ set_alike s.blocks t.blocks block k vs alike.count (alike.versions k own);
}

-- those of a block of another shard are set at one
set_apart : (shards shard i : ℕ) (s t : SeenNode) (block : ℕ) (vs : List Version) → KeepAlike shards shard s t → block % shards ≡ i → i ≢ shard → KeepAlike shards shard (with_versions s block vs) t
set_apart shards shard i s t block vs alike own apart = record {
  config = alike.config;
  number = alike.number;
  count = alike.count ∙ sym (length-set s.blocks block vs);
  versions = λ k there. alike.versions k there ∙ sym (get_or-set_other s.blocks block k vs [] (other_block shards shard i block k own there apart));
}

-- ---- nodes that are alike do alike, and stay so

module _ (shards shard : ℕ) (s t : NodeState) (alike : AreAlike shards shard s t) where
  same_reply : (ask : Ask) → ask.block % shards ≡ shard → reply_of t.node ask ≡ reply_of s.node ask
  same_reply ask own = rw (alike.nodes.config, alike.nodes.number, alike.nodes.versions ask.block own) refl

  same_after : (ask : Ask) → ask.block % shards ≡ shard → after_of t.node ask ≡ after_of s.node ask
  same_after ask own = rw (alike.nodes.config, alike.nodes.number, alike.nodes.versions ask.block own) refl

  same_answer : (m : Message) (body : Body) → IsShare shard shards body → true_answer t.node m body ≡ true_answer s.node m body
  same_answer m (Asks ask) own = ap (with_reply m) (same_reply ask own)
  same_answer m (Answers reply) own = absurd own

  same_call : (nature : Nature) (m : Message) → IsShare shard shards m.body → answers t nature m ≡ answers s nature m
  same_call Honest m own = ap (Answered m) (same_answer m m.body own)
  same_call (Lies rule) m own = ap (λ c. lied m (answer_to c rule m m.body)) alike.nodes.config

  same_act : (nature : Nature) (way : Way) (m : Message) → IsShare shard shards m.body → act t nature way m ≡ act s nature way m
  same_act nature Lose m own = refl
  same_act nature Hold m own = refl
  same_act nature Call m own = call_is nature t m alike.calm.1 ∙ same_call nature m own ∙ sym (call_is nature s m alike.calm.0)

  same_prune : (nature : Nature) → can_prune t nature ≡ true → can_prune s nature ≡ true
  same_prune Honest e = rw alike.calm.0.up refl
  same_prune (Lies rule) e = e

  does : (nature : Nature) (k : Cause) → MayCome nature t k → ComesTo shard shards k → MayCome nature s k × (act_by nature t k ≡ act_by nature s k)
  does nature (Comes way m) comes share = ((comes.0 ∙ alike.nodes.number, comes.1, comes.2), same_act nature way m share.0)
  does nature (ComesLate m) comes share = absurd (none_held t.late m comes.1.0 alike.calm.1.clear comes.1.1)
  does nature (Prunes block stamp) comes share = ((same_prune nature comes.0, subst (λ (c : Numbers). block < c.blocks) alike.nodes.config comes.1), refl)

  does_alike : (nature : Nature) (a : NodeAct) → IsAct nature t a → IsOfShard shard shards a → IsAct nature s a
  does_alike nature a is share =
      let same = does nature (cause_of a) is.comes share in
      record { comes = same.0; done = is.done ∙ same.1 }

  served_alike : (body : Body) → IsShare shard shards body → KeepAlike shards shard (served s.node body) (served t.node body)
  served_alike (Asks ask) own = set_both shards shard s.node t.node ask.block (after_of s.node ask) (after_of t.node ask) alike.nodes (same_after ask own)
  served_alike (Answers reply) own = absurd own

  same_pruned : (block : ℕ) (stamp : Stamp) → block % shards ≡ shard → pruned (setting t.node.config) stamp (versions_in t.node block) ≡ pruned (setting s.node.config) stamp (versions_in s.node block)
  same_pruned block stamp own = rw (alike.nodes.config, alike.nodes.versions block own) refl

  after_alike : (a : NodeAct) → IsPlain a → IsOfShard shard shards a → AreAlike shards shard (after s a) (after t a)
  after_alike a plain share = record { calm = (after_calm s a plain alike.calm.0, after_calm t a plain alike.calm.1); nodes = at a plain share }
    where
      at : (x : NodeAct) → IsPlain x → IsOfShard shard shards x → KeepAlike shards shard (after s x).node (after t x).node
      at (Answered ask reply) p own = served_alike ask.body own.0
      at (Lied ask reply) p own = alike.nodes
      at (Silent ask why) p own = subst (λ x. KeepAlike shards shard x.node (held_back t ask why).node) (sym (held_calm s ask why p alike.calm.0)) (subst (λ x. KeepAlike shards shard s.node x.node) (sym (held_calm t ask why p alike.calm.1)) alike.nodes)
      at (CrashedAt ask late) p own = absurd p
      at (Delivered ask reply) p own = absurd p
      at (LateLost ask) p own = absurd p
      at (Pruned block stamp) p own = set_both shards shard s.node t.node block (pruned (setting s.node.config) stamp (versions_in s.node block)) (pruned (setting t.node.config) stamp (versions_in t.node block)) alike.nodes (same_pruned block stamp own)

  -- what is done on a block of another shard
  served_apart : (i : ℕ) (body : Body) → IsShare i shards body → i ≢ shard → KeepAlike shards shard (served s.node body) t.node
  served_apart i (Asks ask) own apart = set_apart shards shard i s.node t.node ask.block (after_of s.node ask) alike.nodes own apart
  served_apart i (Answers reply) own apart = absurd own

  after_apart : (i : ℕ) (a : NodeAct) → IsPlain a → IsOfShard i shards a → i ≢ shard → AreAlike shards shard (after s a) t
  after_apart i a plain share apart = record { calm = (after_calm s a plain alike.calm.0, alike.calm.1); nodes = at a plain share }
    where
      at : (x : NodeAct) → IsPlain x → IsOfShard i shards x → KeepAlike shards shard (after s x).node t.node
      at (Answered ask reply) p own = served_apart i ask.body own.0 apart
      at (Lied ask reply) p own = alike.nodes
      at (Silent ask why) p own = subst (λ x. KeepAlike shards shard x.node t.node) (sym (held_calm s ask why p alike.calm.0)) alike.nodes
      at (CrashedAt ask late) p own = absurd p
      at (Delivered ask reply) p own = absurd p
      at (LateLost ask) p own = absurd p
      at (Pruned block stamp) p own = set_apart shards shard i s.node t.node block (pruned (setting s.node.config) stamp (versions_in s.node block)) alike.nodes own apart

-- ---- the entries of all shards

module _ (nature : Nature) (shards : ℕ) (several : 1 < shards) where
  -- the entries on the blocks of a shard
  abbrev pub part : ℕ → List NodeEntry → List NodeEntry
  part i es = filter (is_of_shard i shards) es

  abbrev shard_of : NodeEntry → ℕ
  shard_of e = block_for (cause_of e.act) % shards

  is_shard : (e : NodeEntry) → shard_of e < shards
  is_shard e = mod-lt (block_for (cause_of e.act)) (omega (arith, several))

  own_part : (e : NodeEntry) (es : List NodeEntry) → part (shard_of e) (e ∷ es) ≡ e ∷ part (shard_of e) es
  own_part e es = rw (eq-eqb (shard_of e) (shard_of e) refl) refl

  other_part : (i : ℕ) (e : NodeEntry) (es : List NodeEntry) → shard_of e ≢ i → part i (e ∷ es) ≡ part i es
  other_part i e es apart = elim (eqb_tells (shard_of e) i) [ inl same ↦ absurd (apart same.1) | inr not ↦ rw not.0 refl ]

  -- the nodes of the shards after the entry: that of its own shard did it
  abbrev moved : (ℕ → NodeState) → NodeEntry → ℕ → NodeState
  moved t e = update t (shard_of e) (after (t (shard_of e)) e.act)

  moved_own : (t : ℕ → NodeState) (e : NodeEntry) → moved t e (shard_of e) ≡ after (t (shard_of e)) e.act
  moved_own t e = rw (eq-eqb (shard_of e) (shard_of e) refl) refl

  moved_other : (t : ℕ → NodeState) (e : NodeEntry) (j : ℕ) → j ≢ shard_of e → moved t e j ≡ t j
  moved_other t e j apart = elim (eqb_tells j (shard_of e)) [ inl same ↦ absurd (apart same.1) | inr not ↦ rw not.0 refl ]

  -- one shard, when the entry was done
  pub record IsPart (s : NodeState) (t : NodeState) (i : ℕ) (es : List NodeEntry) : Type 0 where
    pub alike : AreAlike shards i s t
    pub kept : NodeKept nature t es
    pub share : All (λ e. IsOfShard i shards e.act) es

  module _ (e : NodeEntry) (es : List NodeEntry) (s : NodeState) (t : ℕ → NodeState) (parts : (i : ℕ) → i < shards → IsPart s (t i) i (part i (e ∷ es))) where
    own : IsPart s (t (shard_of e)) (shard_of e) (e ∷ part (shard_of e) es)
    own = subst (IsPart s (t (shard_of e)) (shard_of e)) (own_part e es) (parts (shard_of e) (is_shard e))

    own_share : IsOfShard (shard_of e) shards e.act
    own_share = All-head (λ x. IsOfShard (shard_of e) shards x.act) e (part (shard_of e) es) own.share

    plain : IsPlain e.act
    plain = is_plain nature shards (shard_of e) (t (shard_of e)) e.act several own.alike.calm.1 own.kept.0 own_share

    is_done : IsAct nature s e.act
    is_done = does_alike shards (shard_of e) s (t (shard_of e)) own.alike nature e.act own.kept.0 own_share

    part_own : IsPart (after s e.act) (after (t (shard_of e)) e.act) (shard_of e) (part (shard_of e) es)
    part_own = record {
      alike = after_alike shards (shard_of e) s (t (shard_of e)) own.alike e.act plain own_share;
      kept = own.kept.1;
      share = All-tail (λ x. IsOfShard (shard_of e) shards x.act) e (part (shard_of e) es) own.share;
    }

    part_other : (j : ℕ) → j < shards → j ≢ shard_of e → IsPart (after s e.act) (t j) j (part j es)
    part_other j below apart =
        let was : IsPart s (t j) j (part j es) = subst (IsPart s (t j) j) (other_part j e es (λ same. apart (sym same))) (parts j below) in
        record {
          alike = after_apart shards j s (t j) was.alike (shard_of e) e.act plain own_share (λ same. apart (sym same));
          kept = was.kept;
          share = was.share;
        }

    next_part : (j : ℕ) → j < shards → IsPart (after s e.act) (moved t e j) j (part j es)
    next_part j below = elim (eqb_tells j (shard_of e)) [
      | inl same ↦ subst (λ (i : ℕ). IsPart (after s e.act) (moved t e i) i (part i es)) (sym same.1) (subst (λ x. IsPart (after s e.act) x (shard_of e) (part (shard_of e) es)) (sym (moved_own t e)) part_own)
      | inr not ↦ subst (λ x. IsPart (after s e.act) x j (part j es)) (sym (moved_other t e j not.1)) (part_other j below not.1)
    ]

  pub parts_kept : (es : List NodeEntry) (s : NodeState) (t : ℕ → NodeState) → ((i : ℕ) → i < shards → IsPart s (t i) i (part i es)) → NodeKept nature s es
  parts_kept [] s t parts = tt
  parts_kept (e ∷ es) s t parts = (is_done e es s t parts, parts_kept es (after s e.act) (moved t e) (next_part e es s t parts))

-- ---- a node that stands in several cells stays calm

-- the entries of one of its cells are plain
module _ (nature : Nature) (shards shard : ℕ) (several : 1 < shards) where
  pub all_plain : (s : NodeState) (es : List NodeEntry) → IsCalm s → NodeKept nature s es → AllByRecursion (λ e. IsOfShard shard shards e.act) es → (e : NodeEntry) → Contains es e → IsPlain e.act
  all_plain s [] calm kept share e there = absurd (Contains-none e there)
  all_plain s (x ∷ es) calm kept share e there =
      let plain = is_plain nature shards shard s x.act several calm kept.0 share.0 in
      elim (Contains-cons_cases e x es there) [
        | inl is ↦ subst (λ (k : NodeEntry). IsPlain k.act) (sym is) plain
        | inr then ↦ all_plain (after s x.act) es (after_calm s x.act plain calm) kept.1 share.1 e then
      ]

pub plain_calm : (s : NodeState) (es : List NodeEntry) → ((e : NodeEntry) → Contains es e → IsPlain e.act) → IsCalm s → IsCalm (after_all s es)
plain_calm s [] each calm = calm
plain_calm s (x ∷ es) each calm = plain_calm (after s x.act) es (λ e there. each e (Contains-rest e x es there)) (after_calm s x.act (each x (Contains-head x es)) calm)
