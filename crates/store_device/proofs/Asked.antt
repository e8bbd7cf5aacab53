-- What a node keeps of each block when it has answered asks for blocks of their own.
use Rattle.std.proofs.Common.{◌≡◌, ◌≢◌, ◌⊎◌, inl, inr, ℕ, zero, suc, ◌<◌, List, [], ◌∷◌, length, take, Some, refl, sym, ◌∙◌, ap, subst}
use Rattle.std.specs.List.{AllByRecursion, slice_get}
use Rattle.std.proofs.lemmas.List.{get_or-set_same, get_or-set_other, length-set}
use Rattle.quorum_rules.specs.Limits.{Numbers}
use Rattle.protocol.specs.Messages.{Version, Ask}
use Rattle.protocol.specs.Nodes.{after, reply}
use Rattle.protocol.specs.Instance.{setting}
use Rattle.node_core.specs.Seen.{SeenNode, versions_in, reply_of, after_of}
use Rattle.version_disk.specs.Deeds.{after_asks, replies_of, after_deed}
use Rattle.version_disk.specs.Deeds.Deed.{Answers}

-- the asks are for blocks of their own
abbrev pub AreForOwn : List Ask → Type 0
AreForOwn [] = Unit {0}
AreForOwn (ask ∷ asks) = AllByRecursion (λ (a : Ask). a.block ≢ ask.block) asks × AreForOwn asks

-- none of the asks is for the block
abbrev pub AreNotFor : ℕ → List Ask → Type 0
AreNotFor block asks = AllByRecursion (λ (a : Ask). a.block ≢ block) asks

-- a node of the cluster, of this number, that keeps a list of versions of each block
pub record IsNodeOf (c : Numbers) (number : ℕ) (node : SeenNode) : Type 0 where
  pub config : node.config ≡ c
  pub numbered : node.number ≡ number
  pub count : length node.blocks ≡ c.blocks

pub all_take : {X : Type 0} (P : X → Type 0) (k : ℕ) (xs : List X) → AllByRecursion P xs → AllByRecursion P (take k xs)
all_take P zero xs all = tt
all_take P (suc k) [] all = tt
all_take P (suc k) (x ∷ xs) all = (all.0, all_take P k xs all.1)

pub all_get : {X : Type 0} (P : X → Type 0) (xs : List X) (j : ℕ) (x : X) → AllByRecursion P xs → slice_get xs j ≡ Some x → P x
all_get P [] j x all is = absurd cc
all_get P (y ∷ xs) zero x all is = let same : y ≡ x = cc in subst P same all.0
all_get P (y ∷ xs) (suc j) x all is = all_get P xs j x all.1 is

-- an ask changes nothing of other blocks
pub stays_one : (node : SeenNode) (ask : Ask) (block : ℕ) → ask.block ≢ block
    → versions_in (after_deed node (Answers ask)) block ≡ versions_in node block
stays_one node ask block other = get_or-set_other node.blocks ask.block block (after_of node ask) []
    (λ (same : block ≡ ask.block). other (sym same))

pub stays : (node : SeenNode) (asks : List Ask) (block : ℕ) → AreNotFor block asks
    → versions_in (after_asks node asks) block ≡ versions_in node block
stays node [] block none = refl
stays node (ask ∷ asks) block none = stays (after_deed node (Answers ask)) asks block none.1 ∙ stays_one node ask block none.0

-- what a node keeps after an ask for a block of which the ask before changed nothing
after_same : (node : SeenNode) (first ask : Ask) → first.block ≢ ask.block
    → after_of (after_deed node (Answers first)) ask ≡ after_of node ask
after_same node first ask other = ap (λ (vs : List Version). after (setting node.config) node.number vs ask)
    (stays_one node first ask.block other)

reply_same : (node : SeenNode) (first ask : Ask) → first.block ≢ ask.block
    → reply_of (after_deed node (Answers first)) ask ≡ reply_of node ask
reply_same node first ask other = ap (λ (vs : List Version). reply (setting node.config) node.number vs ask)
    (stays_one node first ask.block other)

done_one : (node : SeenNode) (ask : Ask) → ask.block < length node.blocks
    → versions_in (after_deed node (Answers ask)) ask.block ≡ after_of node ask
done_one node ask there = get_or-set_same node.blocks ask.block (after_of node ask) [] there

-- a later ask is for another block than the first
apart_from : (first : Ask) (asks : List Ask) (j : ℕ) (ask : Ask) → AreNotFor first.block asks → slice_get asks j ≡ Some ask
    → first.block ≢ ask.block
apart_from first asks j ask apart is = λ (same : first.block ≡ ask.block). all_get (λ (a : Ask). a.block ≢ first.block) asks j ask apart
    is (sym same)

-- an ask among others is answered as if there were no others
pub reply_among : (asks : List Ask) (node : SeenNode) (j : ℕ) (ask : Ask) → AreForOwn asks → slice_get asks j ≡ Some ask
    → slice_get (replies_of node asks) j ≡ Some (reply_of node ask)
reply_among [] node j ask apart is = absurd cc
reply_among (first ∷ asks) node zero ask apart is = let same : first ≡ ask = cc in ap (λ (a : Ask). Some (reply_of node a)) same
reply_among (first ∷ asks) node (suc j) ask apart is =
    reply_among asks (after_deed node (Answers first)) j ask apart.1 is
    ∙ ap Some (reply_same node first ask (apart_from first asks j ask apart.0 is))

-- and done so
pub done_among : (asks : List Ask) (node : SeenNode) (j : ℕ) (ask : Ask) → AreForOwn asks → slice_get asks j ≡ Some ask
    → ask.block < length node.blocks
    → versions_in (after_asks node asks) ask.block ≡ after_of node ask
done_among [] node j ask apart is there = absurd cc
done_among (first ∷ asks) node zero ask apart is there =
    let same : first ≡ ask = cc in
    subst (λ (a : Ask). versions_in (after_asks (after_deed node (Answers first)) asks) a.block ≡ after_of node a) same
    (stays (after_deed node (Answers first)) asks first.block apart.0
    ∙ done_one node first (subst (λ (a : Ask). a.block < length node.blocks) (sym same) there))
done_among (first ∷ asks) node (suc j) ask apart is there =
    done_among asks (after_deed node (Answers first)) j ask apart.1 is
    (subst (λ (n : ℕ). ask.block < n) (sym (length-set node.blocks first.block (after_of node first))) there)
    ∙ after_same node first ask (apart_from first asks j ask apart.0 is)

-- when the first few asks are done, each of them is done or isn't
pub few_among : (k : ℕ) (asks : List Ask) (node : SeenNode) (j : ℕ) (ask : Ask) → AreForOwn asks → slice_get asks j ≡ Some ask
    → ask.block < length node.blocks
    → (versions_in (after_asks node (take k asks)) ask.block ≡ versions_in node ask.block)
    ⊎ (versions_in (after_asks node (take k asks)) ask.block ≡ after_of node ask)
few_among zero asks node j ask apart is there = inl refl
few_among (suc k) [] node j ask apart is there = absurd cc
few_among (suc k) (first ∷ asks) node zero ask apart is there =
    let same : first ≡ ask = cc in
    inr (subst (λ (a : Ask). versions_in (after_asks (after_deed node (Answers first)) (take k asks)) a.block ≡ after_of node a) same
    (stays (after_deed node (Answers first)) (take k asks) first.block (all_take (λ (a : Ask). a.block ≢ first.block) k asks apart.0)
    ∙ done_one node first (subst (λ (a : Ask). a.block < length node.blocks) (sym same) there)))
few_among (suc k) (first ∷ asks) node (suc j) ask apart is there =
    let next = after_deed node (Answers first) in
    let other = apart_from first asks j ask apart.0 is in
    elim (few_among k asks next j ask apart.1 is (subst (λ (n : ℕ). ask.block < n)
    (sym (length-set node.blocks first.block (after_of node first))) there)) [
      | inl same ↦ inl (same ∙ stays_one node first ask.block other)
      | inr done ↦ inr (done ∙ after_same node first ask other)
    ]

-- each reply is there
pub count_replies : (asks : List Ask) (node : SeenNode) → length (replies_of node asks) ≡ length asks
count_replies [] node = refl
count_replies (ask ∷ asks) node = ap suc (count_replies asks (after_deed node (Answers ask)))
