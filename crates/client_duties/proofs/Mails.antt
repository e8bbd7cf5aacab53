-- The messages of a plan are asks of their client to nodes, and well formed.
use Rattle.std.proofs.Common.{◌≡◌, ℕ, zero, suc, ◌+◌, ◌-◌, ◌%◌, ◌<◌, ◌≤◌, ◌==◌, Bool, true, false, cond, eqb, List, [], ◌∷◌, ◌++◌, length, map, All, refl, sym, ap, ◌∙◌, arith}
use Rattle.std.specs.declared.option.Option.TheVariants.{Some}
use Rattle.std.specs.List.{AllByRecursion, flat_map, range_with_len}
use Rattle.std.proofs.lemmas.List.Elements.{All-from_recursion}
use Rattle.quorum_rules.specs.Limits.{Numbers, IsValid}
use Rattle.text_lines.specs.Fields as text
use Rattle.protocol.specs.Messages.{IsBytes, AreDigests}
use Rattle.protocol.specs.Setting.{IsBlock, IsValid as IsGood}
use Rattle.protocol.specs.Instance.{setting, nobody}
use Rattle.protocol.specs.Lines.{sound_ask, mix_ask, mixed, mixed_sum}
use Rattle.protocol.proofs.lemmas.Cluster.{cluster_valid}
use Rattle.protocol.proofs.lemmas.Forming.{sum_formed, all_collect}
use Rattle.event_lines.specs.Lines.{IsValue}
use Rattle.plan_words.specs.declared.fault.Fault.{Fault}
use Rattle.plan_words.specs.declared.fault.Fault.TheVariants.{LiarNode, LiarSound, LiarMix, LiarFlood, CrashNode, CrashClient, Lose, Hold}
use Rattle.plan_words.specs.Plans.{IsFault}
use Rattle.plan_followed.specs.Asked.{messages, messages_by}
use Rattle.client_duties.specs.Tasks.{IsSendable}
use Rattle.protocol.proofs.lemmas.Strings.{all_bytes}
use Rattle.protocol.proofs.lemmas.Counting.{nobody_counts}

bytes_of : (xs : List ℕ) → text.IsBytes xs → IsBytes xs
unfolding text.IsBytes
bytes_of xs h = all_bytes xs h

good : (config : Numbers) → IsValid config → IsGood (setting config)
good config v = cluster_valid config nobody nobody (record { config = v; few = let e = nobody_counts config.n in omega arith })

-- ---- all of some lists

all_append : {X : Type 0} (P : X → Type 0) (xs ys : List X) → AllByRecursion P xs → AllByRecursion P ys → AllByRecursion P (xs ++ ys)
all_append P [] ys h k = k
all_append P (x ∷ xs) ys h k = (h.0, all_append P xs ys h.1 k)

all_map : {X : Type 0} (P : X → Type 0) (f : ℕ → X) (from n top : ℕ) → from + n ≤ top → ((i : ℕ) → i < top → P (f i)) → AllByRecursion P (map f (range_with_len from n))
all_map P f from zero top h k = tt
all_map P f from (suc n) top h k = (k from (omega arith), all_map P f (from + 1) n top (omega arith) k)

all_flat : {X : Type 0} (P : X → Type 0) (f : ℕ → List X) (from n : ℕ) → ((i : ℕ) → AllByRecursion P (f i)) → AllByRecursion P (flat_map f (range_with_len from n))
all_flat P f from zero k = tt
all_flat P f from (suc n) k = all_append P (f from) (flat_map f (range_with_len (from + 1) n)) (k from) (all_flat P f (from + 1) n k)

all_cond : {X : Type 0} (P : X → Type 0) (b : Bool) (xs : List X) → AllByRecursion P xs → AllByRecursion P (cond b xs [])
all_cond P true xs h = h
all_cond P false xs h = tt

-- ---- the messages

module _ (config : Numbers) (v : IsValid config) (c : ℕ) where
  block_of : (value : List ℕ) → IsValue config value → IsBlock (setting config) value
  block_of value h = (h.whole, bytes_of value h.bytes)

  sound_sendable : (block time : ℕ) (value : List ℕ) → IsValue config value → (i : ℕ) → i < config.n → IsSendable config c (sound_ask (setting config) c i block time value)
  sound_sendable block time value h i l =
      let b = block_of value h in
      record { own = refl; node = l; asks = tt; formed = (sum_formed (setting config) (good config v) value b, (good config v).bytes-fragment value i b) }

  mixed_bytes : (value other : List ℕ) → IsValue config value → IsValue config other → (i : ℕ) → IsBytes (mixed (setting config) value other i)
  mixed_bytes value other h k i = at (eqb (i % 2) 0)
    where
      at : (b : Bool) → IsBytes (cond b ((setting config).fragment_of value i) ((setting config).fragment_of other i))
      at true = (good config v).bytes-fragment value i (block_of value h)
      at false = (good config v).bytes-fragment other i (block_of other k)

  mixed_digests : (value other : List ℕ) → AreDigests (mixed_sum (setting config) value other)
  mixed_digests value other =
      all_collect (λ d. length d ≡ 32) config.n (λ i. Some ((setting config).digest (mixed (setting config) value other i)))
      (λ i x e. let q : (setting config).digest (mixed (setting config) value other i) ≡ x = cc in ap length (sym q) ∙ (good config v).length-digest (mixed (setting config) value other i))

  mix_sendable : (block time : ℕ) (value other : List ℕ) → IsValue config value → IsValue config other → (i : ℕ) → i < config.n → IsSendable config c (mix_ask (setting config) c i block time value other)
  mix_sendable block time value other h k i l = record { own = refl; node = l; asks = tt; formed = (mixed_digests value other, mixed_bytes value other h k i) }

  rule_sendable : (rule : Fault) → IsFault config rule → AllByRecursion (IsSendable config c) (messages_by config c rule)
  rule_sendable (LiarSound client block time value n) h =
      all_cond (IsSendable config c) (c == client) (map (λ i. sound_ask (setting config) c i block time value) (range_with_len 0 n))
      (all_map (IsSendable config c) (λ i. sound_ask (setting config) c i block time value) 0 n config.n (let l = h.4 in omega arith) (sound_sendable block time value h.3))
  rule_sendable (LiarMix client block time value other n) h =
      all_cond (IsSendable config c) (c == client) (map (λ i. mix_ask (setting config) c i block time value other) (range_with_len 0 n))
      (all_map (IsSendable config c) (λ i. mix_ask (setting config) c i block time value other) 0 n config.n (let l = h.5 in omega arith) (mix_sendable block time value other h.3 h.4))
  rule_sendable (LiarFlood client block time value other n) h =
      all_cond (IsSendable config c) (c == client) (flat_map (λ k. map (λ i. mix_ask (setting config) c i block (time - k) value other) (range_with_len 0 config.n)) (range_with_len 0 n))
      (all_flat (IsSendable config c) (λ k. map (λ i. mix_ask (setting config) c i block (time - k) value other) (range_with_len 0 config.n)) 0 n
      (λ k. all_map (IsSendable config c) (λ i. mix_ask (setting config) c i block (time - k) value other) 0 config.n config.n (omega arith) (mix_sendable block (time - k) value other h.3 h.4)))
  rule_sendable (LiarNode node rule) h = tt
  rule_sendable (CrashNode node n) h = tt
  rule_sendable (CrashClient client n) h = tt
  rule_sendable (Lose client node n) h = tt
  rule_sendable (Hold client node n) h = tt

  rules_sendable : (rules : List Fault) → AllByRecursion (IsFault config) rules → AllByRecursion (IsSendable config c) (messages config rules c)
  rules_sendable [] h = tt
  rules_sendable (rule ∷ rules) h = all_append (IsSendable config c) (messages_by config c rule) (messages config rules c) (rule_sendable rule h.0) (rules_sendable rules h.1)

  pub all_sendable : (rules : List Fault) → AllByRecursion (IsFault config) rules → All (IsSendable config c) (messages config rules c)
  all_sendable rules h = All-from_recursion (IsSendable config c) (messages config rules c) (rules_sendable rules h)
