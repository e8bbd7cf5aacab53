-- What a node plans is what the versions that it keeps tell.
use Rattle.std.proofs.Common.{◌≡◌, inl, inr, ℕ, ◌<◌, ◌==◌, ◌∷◌, Bool, true, false, List, map, refl, sym, ◌∙◌, ap, subst, arith, eqb-true}
use Rattle.std.specs.Prelude.{nat_lt, length}
use Rattle.std.specs.declared.option.Option.TheVariants.{None, Some}
use Rattle.std.proofs.lemmas.Bool.{cases_Bool}
use Rattle.quorum_rules.specs.Limits.{Numbers}
use Rattle.protocol.specs.Messages.{Version, Ask, Request}
use Rattle.protocol.specs.Setting.{Setting}
use Rattle.protocol.specs.Instance.{setting}
use Rattle.protocol.specs.Nodes.{first_version, refusal, reply_in, added_in, keeps, added}
use Rattle.wire_forms.specs.declared.Request.TheVariants.{Write}
use Rattle.wire_forms.specs.declared.Reason.TheVariants.{BadLength}
use Rattle.node_core.specs.Seen.{SeenNode, versions_in, reply_of, accepts_of}
use Rattle.slab_layout.specs.Shapes.{shape_of}
use Rattle.slab_node.specs.Held.{held_by}
use Rattle.slab_node.proofs.lemmas.Node.{versions_at}
use Rattle.slab_index.specs.declared.kept.Kept.{Kept}
use Rattle.slab_index.specs.Kept.{kept_in}
use Rattle.slab_index.specs.Slots.{version_at, IsIndexBy}
use Rattle.slab_index.proofs.lemmas.Holding.{slots_hold}
use Rattle.slab_engine.specs.declared.plan.Plan.{Plan}
use Rattle.slab_engine.specs.declared.plan.Plan.TheVariants.{Silent, Tells, First, Empty, Reads, Acks, Refuses, Adds}
use Rattle.slab_engine.specs.Plans.{said, plan_in, IsPlan, AddsAsPlanned}
use Rattle.slab_engine.proofs.Planning.{plan_tells}

lt_true : (a b : ℕ) → a < b → nat_lt a b ≡ true
lt_true a b lt = grind arith

adds_none : (s : Setting) (number : ℕ) (vs : List Version) (q : Request) (p : Plan) → AddsAsPlanned s number vs q p → (p ≡ Adds → ⊥) → added_in s number vs q ≡ None
adds_none s number vs q Silent adds not_so = adds
adds_none s number vs q (Tells time) adds not_so = adds
adds_none s number vs q First adds not_so = adds
adds_none s number vs q Empty adds not_so = adds
adds_none s number vs q (Reads k) adds not_so = adds
adds_none s number vs q Acks adds not_so = adds
adds_none s number vs q (Refuses reason) adds not_so = adds
adds_none s number vs q Adds adds not_so = absurd (not_so refl)

adds_some : (s : Setting) (number : ℕ) (vs : List Version) (q : Request) (p : Plan) → AddsAsPlanned s number vs q p → p ≡ Adds → AddsAsPlanned s number vs q Adds
adds_some s number vs q p adds is = subst (λ (x : Plan). AddsAsPlanned s number vs q x) is adds

-- a version that isn't refused has its lengths
pub lengths_of : (s : Setting) (number : ℕ) (v : Version) → refusal s number v ≡ None → (length v.sum ≡ s.n) × (length v.fragment ≡ s.share)
lengths_of s number v e = elim (cases_Bool (length v.sum == s.n)) [
  | inr short ↦ (let bad : Some BadLength ≡ None = rw short at e in absurd (cc))
  | inl sums ↦ elim (cases_Bool (length v.fragment == s.share)) [
    | inr short ↦ (let bad : Some BadLength ≡ None = rw (sums, short) at e in absurd (cc))
    | inl share ↦ (eqb-true _ _ sums, eqb-true _ _ share)
  ]
]

-- a version is added where it isn't kept yet
pub not_kept : (vs : List Version) (v w : Version) → added None vs v ≡ Some w → keeps vs v.stamp ≡ false
not_kept vs v w e = elim (cases_Bool (keeps vs v.stamp)) [
  | inl is ↦ (let none : None ≡ Some w = rw is at e in absurd (cc))
  | inr not_so ↦ not_so
]

module _ (c : Numbers) (number : ℕ) (m : ℕ → Bool) (bytes : List ℕ) (block : ℕ) (below : block < c.blocks) where
  abbrev node : SeenNode
  node = held_by (shape_of c) m c number bytes

  abbrev first : Version
  first = first_version (setting c) number

  abbrev s : Setting
  s = setting c

  -- what is answered of a block that there is
  pub replies_in : (ask : Ask) → ask.block ≡ block → reply_of node ask ≡ reply_in s number (versions_in node block) ask.request
  replies_in ask is = rw (lt_true ask.block c.blocks (omega (arith, is, below))) (ap (λ b. reply_in s number (versions_in node b) ask.request) is)

  pub accepts_in : (ask : Ask) → ask.block ≡ block → accepts_of node ask ≡ added_in s number (versions_in node block) ask.request
  accepts_in ask is = rw (lt_true ask.block c.blocks (omega (arith, is, below))) (ap (λ b. added_in s number (versions_in node b) ask.request) is)

  module _ (index : List (List Kept)) (is_index : IsIndexBy (shape_of c) m bytes index) where
    its_versions : first ∷ map (version_at (shape_of c) bytes) (kept_in index block) ≡ versions_in node block
    its_versions =
        ap (λ ks. first ∷ map (version_at (shape_of c) bytes) ks) (is_index.each block below)
        ∙ ap (λ vs. first ∷ vs) (slots_hold (shape_of c) m bytes block) ∙ sym (versions_at c number m bytes block below)

    module _ (ask : Ask) (is : ask.block ≡ block) where
      abbrev plan : Plan
      plan = plan_in s number first.stamp (kept_in index block) ask.request

      planned : IsPlan s number first (version_at (shape_of c) bytes) (kept_in index block) ask.request plan
      planned = plan_tells s number first (version_at (shape_of c) bytes) (kept_in index block) ask.request (λ k. refl) refl

      pub plan_replies : said first (version_at (shape_of c) bytes) plan ≡ Some (reply_of node ask)
      plan_replies = planned.reply ∙ ap (λ vs. Some (reply_in s number vs ask.request)) its_versions ∙ ap Some (sym (replies_in ask is))

      pub plan_adds_none : (plan ≡ Adds → ⊥) → accepts_of node ask ≡ None
      plan_adds_none not_so =
          accepts_in ask is ∙ sym (ap (λ vs. added_in s number vs ask.request) its_versions)
          ∙ adds_none s number (first ∷ map (version_at (shape_of c) bytes) (kept_in index block)) ask.request plan planned.adds not_so

      pub plan_adds : plan ≡ Adds → (v : Version) × (ask.request ≡ Write v) × (refusal s number v ≡ None) × (accepts_of node ask ≡ Some v)
      plan_adds adds =
          let some = adds_some s number (first ∷ map (version_at (shape_of c) bytes) (kept_in index block)) ask.request plan planned.adds adds in
          (some.0, some.1, some.2, accepts_in ask is ∙ sym (ap (λ vs. added_in s number vs ask.request) its_versions) ∙ some.3)
